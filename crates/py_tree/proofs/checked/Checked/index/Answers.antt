use Rattle.std.proofs.Common.{subst}
use Rattle.std.specs.Slice.{IsItemAt}
use Rattle.py_tree.specs.CheckedViews.{checked_program, checked_names}
use Rattle.py_tree.proofs.IndexLaws.{item_got, index_kept}
use Rattle.py_tree.proofs.checked.Checked.index.Goals as goal

pub returns : goal.returns
returns c =
    let me = c.args.self.now in
    let kept = item_got me.indices.items c.args.class c.get.result (subst (λ xs. IsItemAt xs c.args.class c.get.result) c.deref.ensures.value c.get.ensures.lookup) in
    index_kept (checked_names me) (checked_program me) me.indices.items me.are_indices c.args.class c.get.result kept
