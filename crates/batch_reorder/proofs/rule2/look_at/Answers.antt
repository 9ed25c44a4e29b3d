use Rattle.std.proofs.Common.{◌∙◌, sym}
use Rattle.batch_reorder.proofs.Turns.{noted_waiting}
use Rattle.batch_reorder.proofs.rule2.look_at.Goals as goal

pub returns-then-must_wait-clause-noted : goal.returns-then-must_wait-clause-noted
returns-then-must_wait-clause-noted c =
    noted_waiting c.args.earlier.now c.note.new.earlier c.args.work.now _ (sym c.must_wait.ensures ∙ c.if-must_wait.true) c.in_ok-note.ensures.readers c.in_ok-note.ensures.writers c.in_ok-note.ensures.committed
