use Rattle.std.proofs.Common.{◌∙◌, sym, append-nil}
use Rattle.sf_list.proofs.CopyLaws.{equal_copies}
use Rattle.source_meaning.proofs.operations.join_items.Goals as goal

pub loop-value-init : goal.loop-value-init
loop-value-init c = equal_copies c.args.left.now c.in_ok-made.made c.in_ok-made.ensures ∙ sym (append-nil c.args.left.now)
