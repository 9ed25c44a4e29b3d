use Rattle.std.proofs.Common.{[], ◌∷◌, refl}
use Rattle.batch_output.specs.Vocabulary.{core_of, source_of}
use Rattle.session_store.specs.Vocabulary.{logged_of}
use Rattle.session_store.proofs.Vocabulary.{plan_is_spelt}
use Rattle.batch_replies.proofs.GoingLaws.{stays}
use Rattle.batch_replies.proofs.MomentLaws.{Logs-still}
use Rattle.batch_replies.proofs.FlushLaws.{untouched}
use Rattle.batch_replies.proofs.answering.answer_planned.Goals as goal

pub draft_of-requires : goal.draft_of-requires
draft_of-requires g c = record { spelt = (plan_is_spelt c.args.engine.now c.args.planned c.requires.plan c.requires.ready.storable).0 }

pub returns-in-Err-clause-logs : goal.returns-in-Err-clause-logs
returns-in-Err-clause-logs g c = λ rule chosen.
    let e = c.args.engine.now in
    Logs-still (source_of e) rule c.args.store.now (core_of e ∷ []) (logged_of e) (logged_of e) (g.D.Disk.facts c.args.disk.now) refl c.requires.ready.kept

pub returns-in-Err-clause-goes_on : goal.returns-in-Err-clause-goes_on
returns-in-Err-clause-goes_on g c = λ rule chosen. stays rule _ c.requires.ready

pub returns-in-Err-clause-flushes : goal.returns-in-Err-clause-flushes
returns-in-Err-clause-flushes g c = untouched _ (g.K.Sink.handed c.args.out.now) _
