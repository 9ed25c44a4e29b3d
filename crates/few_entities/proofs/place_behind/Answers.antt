use Rattle.std.proofs.Common.{refl, sym, ap, position, is_some}
use Rattle.std.specs.Map.{lookup}
use Rattle.few_entities.specs.Entries.{is_ref, refs_of}
use Rattle.few_entities.proofs.ListLaws.{none_left}
use Rattle.few_entities.proofs.place_behind.Goals as goal

pub returns-then-is_empty-clause-index : goal.returns-then-is_empty-clause-index
returns-then-is_empty-clause-index g c = ap (λ l. position (is_ref c.args.at.now) (refs_of l)) (sym (none_left c.args.more.now.entries (c.if-is_empty.ensures.0 refl)))

pub returns-then-is_empty-clause-found : goal.returns-then-is_empty-clause-found
returns-then-is_empty-clause-found g c = ap (λ l. is_some (lookup (is_ref c.args.at.now) l)) (sym (none_left c.args.more.now.entries (c.if-is_empty.ensures.0 refl)))
