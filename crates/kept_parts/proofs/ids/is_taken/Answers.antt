use Rattle.std.proofs.Common.{ap, sym, ◌∙◌, ◌||◌}
use Rattle.std.specs.Prelude.{bytes_eq}
use Rattle.std.specs.List.{list_any}
use Rattle.std.proofs.lemmas.List.Folds.{list_any-append}
use Rattle.request_history.specs.HistoryView.{kept_at}
use Rattle.request_history.specs.Repeats.{kept_of}
use Rattle.kept_parts.specs.Ids.{entry_ids, request_ids}
use Rattle.kept_parts.proofs.EachLaws.{is_there}
use Rattle.kept_parts.proofs.IdLaws.{found}
use Rattle.kept_parts.proofs.ids.is_taken.Goals as goal

pub returns-then-is_some : goal.returns-then-is_some
returns-then-is_some c =
    let there = sym (found c.args.history.now.entries c.args.id.now) ∙ sym (is_there kept_at c.find.result (kept_of c.args.history.now.entries c.args.id.now) c.find.ensures) ∙ sym c.is_some.ensures ∙ c.if-is_some.true in
    c.if-is_some.true
    ∙ sym (list_any-append (bytes_eq c.args.id.now) (entry_ids c.args.history.now.entries) (request_ids c.args.requests.now) ∙ ap (λ b. b || list_any (bytes_eq c.args.id.now) (request_ids c.args.requests.now)) there)

pub returns-else-is_some : goal.returns-else-is_some
returns-else-is_some c =
    let absent = sym (found c.args.history.now.entries c.args.id.now) ∙ sym (is_there kept_at c.find.result (kept_of c.args.history.now.entries c.args.id.now) c.find.ensures) ∙ sym c.is_some.ensures ∙ c.if-is_some.false in
    c.is_among.ensures
    ∙ sym (list_any-append (bytes_eq c.args.id.now) (entry_ids c.args.history.now.entries) (request_ids c.args.requests.now) ∙ ap (λ b. b || list_any (bytes_eq c.args.id.now) (request_ids c.args.requests.now)) absent)
