use Rattle.std.proofs.Common.{◌≡◌, ◌<◌, ap, ◌∙◌, subst, length, get_or, arith, rules, true, false}
use Rattle.keyed_state.specs.Works.{is_written}
use Rattle.keyed_state.proofs.RecordLaws.{count_of_next, one_counted, none_counted}
use Rattle.keyed_state.proofs.commit.writes_of.Goals.{then-was_written, else-was_written}
use Rattle.keyed_state.proofs.commit.writes_of.Goals as goal

pub loop-held-preserved : goal.loop-held-preserved
loop-held-preserved c =
    let within : c.loop-held.held-index < length c.args.work.now.held = subst (λ l. c.loop-held.held-index < length l) c.as_slice-held-items.ensures c.loop-held-test.true in
    let is : c.held-item.result ≡ get_or c.args.work.now.held c.loop-held.held-index c.held-item.result = c.held-item.is ∙ ap (λ l. get_or l c.loop-held.held-index c.held-item.result) c.as_slice-held-items.ensures in
    let next = count_of_next c.args.work.now.writes c.args.work.now.held c.loop-held.held-index c.held-item.result within is in
    let before = c.loop-held.invariant.count in
    let few = c.loop-held.invariant.few in
    elim c.if-was_written.branch [
      | then-was_written w ↦
          let is_one : is_written c.args.work.now.writes c.held-item.result ≡ true = search rules in
          let one = one_counted c.args.work.now.writes c.held-item.result is_one in
          let count = w.count-is in
          record { count = omega arith; few = omega arith }
      | else-was_written w ↦
          let is_none : is_written c.args.work.now.writes c.held-item.result ≡ false = search rules in
          let none = none_counted c.args.work.now.writes c.held-item.result is_none in
          let count = w.count-is in
          record { count = omega arith; few = omega arith }
    ]
