use Rattle.std.proofs.Common.{◌∙◌, ap, sym}
use Rattle.reservations.specs.Accesses.{access_of_work, accesses_of}
use Rattle.reservations.specs.BatchRule.{is_clear}
use Rattle.reservations.proofs.ChoiceLaws.{access_at_work, waits_is, committed_more, carried_more}
use Rattle.reservations.proofs.rule1.choose_by.Goals as goal

pub loop-i-preserved : goal.loop-i-preserved
loop-i-preserved c =
    let at = access_at_work c.args.works.now c.loop-i.i c.index-works-i.result c.loop-i-test.true ∙ ap access_of_work (sym c.index-works-i.is) in
    let waits = c.waits.ensures ∙ waits_is c.args.table.now (accesses_of c.args.works.now) c.loop-i.i c.index-works-i.result at c.requires.writers in
    record {
      committed = committed_more (is_clear (accesses_of c.args.works.now)) c.loop-i.i c.loop-i.choice.committed c.add.new.choice.committed c.waits.result waits c.loop-i.invariant.committed c.in_ok-add.ensures.committed;
      carried = carried_more (is_clear (accesses_of c.args.works.now)) c.loop-i.i c.loop-i.choice.carried c.add.new.choice.carried c.waits.result waits c.loop-i.invariant.carried c.in_ok-add.ensures.carried;
    }
