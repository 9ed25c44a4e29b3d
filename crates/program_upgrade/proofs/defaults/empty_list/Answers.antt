use Rattle.std.proofs.Common.{sym, ◌∙◌, true≢false}
use Rattle.program_upgrade.proofs.DefaultLaws.{no_empty_list}
use Rattle.program_upgrade.proofs.defaults.empty_list.Goals as goal

pub returns-else-is_empty : goal.returns-else-is_empty
returns-else-is_empty c = sym (no_empty_list c.args.items.now (λ e. true≢false (sym (c.is_empty.ensures.1 e) ∙ c.if-is_empty.false)))
