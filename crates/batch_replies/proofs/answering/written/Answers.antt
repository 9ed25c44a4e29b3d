use Rattle.batch_replies.proofs.answering.written.Goals as goal

pub returns-in-Ok-clause-flushes : goal.returns-in-Ok-clause-flushes
returns-in-Ok-clause-flushes g c = record { stays = c.write_all-wrote.ensures.flushes.stays; all = (rw c.in-Ok.is at c.write_all-wrote.ensures.flushes).all }

pub returns-in-Err-clause-flushes : goal.returns-in-Err-clause-flushes
returns-in-Err-clause-flushes g c = record { stays = c.write_all-wrote.ensures.flushes.stays; all = tt }
