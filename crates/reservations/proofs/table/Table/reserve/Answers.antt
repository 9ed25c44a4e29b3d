use Rattle.std.proofs.Common.{ap, ◌∙◌, sym}
use Rattle.std.specs.FinMap as finite
use Rattle.sf_value.specs.Keys.{key_of}
use Rattle.sf_value.proofs.Maps.{insert-keyed}
use Rattle.reservations.specs.Reservations.{reserved_in, least_with}
use Rattle.reservations.proofs.TableLaws.{kept_stays, new_least}
use Rattle.reservations.proofs.table.Table.reserve.Goals as goal

pub returns-then-is_kept-clause-ok : goal.returns-then-is_kept-clause-ok
returns-then-is_kept-clause-ok c = kept_stays c.args.self.now (key_of c.args.at.now) c.args.place c.least.result c.least.ensures (sym c.is_kept.ensures ∙ c.if-is_kept.true)

pub returns-clause-ok : goal.returns-clause-ok
returns-clause-ok c =
    ap reserved_in c.in_ok-insert.ensures.entries
    ∙ insert-keyed c.self.inside.places.entries c.in_ok-try_clone.field-0 c.args.place
    ∙ (λ i. finite.insert (c.self.view_is i) (key_of (c.in_ok-try_clone.ensures i)) c.args.place)
    ∙ ap (finite.insert c.args.self.now (key_of c.args.at.now)) (sym (ap (λ o. least_with o c.args.place) (sym c.least.ensures) ∙ new_least c.least.result c.args.place (sym c.is_kept.ensures ∙ c.if-is_kept.false)))
