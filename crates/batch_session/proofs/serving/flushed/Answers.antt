use Rattle.batch_session.proofs.TurnLaws.{all_flushed, not_all_flushed}
use Rattle.batch_session.proofs.serving.flushed.Goals as goal

pub returns-in-Ok-clause-handed : goal.returns-in-Ok-clause-handed
returns-in-Ok-clause-handed g c = all_flushed c.args.served _ _ _ _ c.in-Ok.ensures.all

pub returns-in-Err-clause-handed : goal.returns-in-Err-clause-handed
returns-in-Err-clause-handed g c = not_all_flushed c.unflushed.result c.args.served _ _ _ _ c.unflushed.ensures c.in-Err.ensures.cause.failed

pub returns-in-Ok-clause-stays : goal.returns-in-Ok-clause-stays
returns-in-Ok-clause-stays g c = (c.flush.ensures.hands.more, c.flush.ensures.hands.grows)

pub returns-in-Err-clause-stays : goal.returns-in-Err-clause-stays
returns-in-Err-clause-stays g c = (c.flush.ensures.hands.more, c.flush.ensures.hands.grows)
