use Rattle.std.proofs.Common.{ap, ◌∙◌}
use Rattle.std.specs.FinMap as finite
use Rattle.std.specs.FinSet as set
use Rattle.sf_value.specs.Keys.{key_cmp}
use Rattle.keyed_state.specs.Works.{keys_of}
use Rattle.reservations.specs.Reservations.{reserved_if}
use Rattle.reservations.proofs.TableLaws.{writers_more}
use Rattle.reservations.proofs.rule1.first_writers.Goals as goal

pub loop-i-init : goal.loop-i-init
loop-i-init c = λ q. ap (λ t. finite.get t q) c.new-table.ensures ∙ finite.get-empty key_cmp q

pub loop-i-preserved : goal.loop-i-preserved
loop-i-preserved c =
    writers_more c.args.works.now c.loop-i.i c.index-works-i.result c.loop-i.table c.reserve_all.new.table c.loop-i-test.true c.index-works-i.is c.loop-i.invariant
    (λ q. c.in_ok-reserve_all.ensures q ∙ ap (λ refs. reserved_if (set.contains (keys_of refs) q) (finite.get c.loop-i.table q) c.loop-i.i) c.as_slice.ensures)
