use Rattle.std.proofs.Common.{ap, ◌∙◌, sym, take, ◌++◌, ◌∷◌, []}
use Rattle.std.proofs.lemmas.List.{take_more}
use Rattle.std.specs.FinMap as finite
use Rattle.std.specs.FinSet as set
use Rattle.sf_value.specs.Keys.{key_cmp}
use Rattle.reservations.specs.Reservations.{reserved_if}
use Rattle.reservations.proofs.TableLaws.{one_more_reserved}
use Rattle.reservations.proofs.rule1.reserve_all.Goals as goal

pub loop-at-init : goal.loop-at-init
loop-at-init c = λ q. sym (ap (λ b. reserved_if b (finite.get c.args.table.now q) c.args.place) (set.contains-empty key_cmp q))

pub loop-at-preserved : goal.loop-at-preserved
loop-at-preserved c =
    one_more_reserved c.args.table.now c.loop-at.table c.reserve.new.self c.args.place (take c.loop-at.at-index c.args.writes.now) _ c.at-item.result
    (take_more c.args.writes.now c.loop-at.at-index c.at-item.result c.loop-at-test.true ∙ ap (λ x. take c.loop-at.at-index c.args.writes.now ++ x ∷ []) (sym c.at-item.is)) c.in_ok-reserve.ensures.ok c.loop-at.invariant
