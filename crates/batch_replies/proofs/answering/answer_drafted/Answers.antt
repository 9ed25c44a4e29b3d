use Rattle.std.proofs.Common.{◌<◌, List, ℕ, false, true≢false, inl, inr, length, refl, sym, ◌∙◌, subst}
use Rattle.sf_outside.proofs.ImageSteps.{on_ok}
use Rattle.batch_output.specs.Vocabulary.{Core, core_of, source_of, after_batch, fresh_of}
use Rattle.batch_output.proofs.Vocabulary.{grows_same}
use Rattle.session_store.specs.Stores.{LeavesEither}
use Rattle.session_store.specs.Vocabulary.{logged_of}
use Rattle.session_store.proofs.CycleLaws.{settings_kept}
use Rattle.session_store.proofs.StoreLaws.{all_logged, keeps_after, record_ends}
use Rattle.session_store.proofs.Vocabulary.{commit_storable, plan_is_spelt}
use Rattle.batch_replies.specs.Stops.{disk_failed}
use Rattle.batch_replies.specs.GoingOn.{SessionState, state_of, GoesOn}
use Rattle.batch_replies.proofs.AnswerLaws.{answered, plan_replies}
use Rattle.batch_replies.proofs.CountLaws.{fewer_left}
use Rattle.batch_replies.proofs.GoingLaws.{fails_alike, only_written}
use Rattle.batch_replies.proofs.MomentLaws.{logs_chosen}
use Rattle.batch_replies.proofs.SameProgram.{runs_itself}
use Rattle.batch_replies.proofs.FlushLaws.{untouched}
use Rattle.batch_replies.proofs.answering.answer_drafted.Goals as goal

pub log_planned-logged-requires-clause-short : goal.log_planned-logged-requires-clause-short
log_planned-logged-requires-clause-short g c = (plan_is_spelt c.args.engine.now c.args.planned c.requires.plan c.requires.ready.storable).1

pub returns-in-Ok-clause-answers : goal.returns-in-Ok-clause-answers
returns-in-Ok-clause-answers g c = λ rule size chosen.
    let e = c.args.engine.now in
    let p = c.args.planned in
    answered (source_of e) rule (record { batch = size; history = e.limit }) (core_of e) p.batch.committed p.replies chosen (plan_replies e p c.requires.plan) c.requires.plan.room.limit
    c.written.result (core_of c.commit.new.self) (g.K.Sink.held c.args.out.now) (g.K.Sink.held c.written.new.out) c.args.draft.lines c.counts_of-counts.result
    c.requires.lines c.commit.ensures.core
    c.counts_of-counts.ensures.pending c.counts_of-counts.ensures.committed c.counts_of-counts.ensures.failed
    c.written.ensures.counts c.written.ensures.fault c.written.ensures.whole c.written.ensures.part

pub returns-in-Ok-clause-fewer : goal.returns-in-Ok-clause-fewer
returns-in-Ok-clause-fewer g c =
    on_ok c.written.result _ _
    (λ whole. subst (λ (core : Core). length core.pending < length (core_of c.args.engine.now).pending) (sym c.commit.ensures.core) (fewer_left c.args.engine.now c.args.planned c.requires.plan c.requires.some))
    c.written.ensures.whole

pub returns-in-Ok-clause-logs : goal.returns-in-Ok-clause-logs
returns-in-Ok-clause-logs g c = λ rule chosen.
    logs_chosen c.args.engine.now c.commit.new.self rule c.args.planned.batch.committed c.args.store.now _ _ chosen c.log_planned-logged.ensures.moments
    (inr (all_logged c.commit.new.self c.commit.ensures.fresh ∙ c.commit.ensures.core))

pub returns-in-Err-clause-logs : goal.returns-in-Err-clause-logs
returns-in-Err-clause-logs g c = λ rule chosen.
    logs_chosen c.args.engine.now c.args.engine.now rule c.args.planned.batch.committed c.args.store.now _ _ chosen c.log_planned-logged.ensures.moments (inl refl)

pub returns-in-Ok-clause-goes_on : goal.returns-in-Ok-clause-goes_on
returns-in-Ok-clause-goes_on g c = λ rule chosen.
    let e = c.args.engine.now in
    let now = c.commit.new.self in
    let places = c.args.planned.batch.committed in
    let commit = c.commit.ensures in
    let logged = c.log_planned-logged.ensures in
    let kept = c.log_planned-logged.new in
    let old : SessionState = state_of e c.args.store.now (g.D.Disk.facts c.args.disk.now) (g.D.Disk.faults c.args.disk.now) (g.D.Disk.mounts c.args.disk.now) in
    let new : SessionState = state_of now kept.store (g.D.Disk.facts kept.disk) (g.D.Disk.faults kept.disk) (g.D.Disk.mounts kept.disk) in
    let went : GoesOn rule false old new = record {
      runs = commit.runs;
      fits = commit.core_fits c.requires.ready.fits;
      grows = commit.grows;
      storable = commit_storable e now places commit.core commit.fresh c.requires.ready.fits c.requires.ready.storable;
      kept = keeps_after e now commit.runs kept.store new.facts (after_batch (source_of e) (core_of e) places) commit.core commit.fresh (rw c.in-Ok.is at logged.logged);
      settings = settings_kept c.args.store.now kept.store logged.cycle;
      later = logged.later;
      cause = λ is. absurd (true≢false (sym is));
      mounts = logged.mounts;
    } in
    fails_alike rule false (disk_failed c.written.result) old new (sym (only_written c.written.result c.written.ensures.fault)) went

pub returns-in-Err-clause-goes_on : goal.returns-in-Err-clause-goes_on
returns-in-Err-clause-goes_on g c = λ rule chosen.
    let e = c.args.engine.now in
    let logged = c.log_planned-logged.ensures in
    let kept = c.log_planned-logged.new in
    let facts = g.D.Disk.facts kept.disk in
    record {
      runs = runs_itself e;
      fits = c.requires.ready.fits;
      grows = grows_same (source_of e) (core_of e);
      storable = c.requires.ready.storable;
      kept = subst (λ (places : List ℕ). LeavesEither kept.store (source_of e) (logged_of e) (after_batch (source_of e) (core_of e) places) facts) chosen (rw c.in-Err.is at logged.leaves);
      settings = settings_kept c.args.store.now kept.store logged.cycle;
      later = logged.later;
      cause = λ is. elim (rw c.in-Err.is at logged.cause) [
        | inl rose ↦ inl rose
        | inr past ↦ inr (record_ends rule kept.store (source_of e) (core_of e) (fresh_of e) facts c.args.planned.batch c.requires.plan.told.news chosen past.0 past.1)
      ];
      mounts = logged.mounts;
    }

pub returns-in-Err-clause-flushes : goal.returns-in-Err-clause-flushes
returns-in-Err-clause-flushes g c = untouched _ (g.K.Sink.handed c.args.out.now) _
