use Rattle.std.proofs.Common.{◌⊎◌, Some, inl, inr, sym, subst}
use Rattle.sf_outside.specs.Causes.{Rose}
use Rattle.request_log.specs.LogFile.{IsBatch}
use Rattle.store_meaning.specs.Vocabulary.{after_batch, core_of, source_of}
use Rattle.store_meaning.specs.Engines.{logged_of}
use Rattle.session_store.specs.Stores.{KeepsStored, LeavesStored, RecordEndsPast}
use Rattle.session_store.proofs.LoggingLaws.{on_err, body_short, keeps_logged, moments_logged, record_past}
use Rattle.session_store.proofs.StoreLaws.{leaves_now}
use Rattle.session_store.proofs.logging.log_body.Goals as goal

pub log_batch-requires-clause-short : goal.log_batch-requires-clause-short
log_batch-requires-clause-short g c =
    body_short c.as_slice.result.now c.args.planned.now.batch (subst (λ b. IsBatch b c.args.planned.now.batch) (sym c.as_slice.ensures) c.requires.body) c.requires.short

pub returns-in_err-store-clause-leaves : goal.returns-in_err-store-clause-leaves
returns-in_err-store-clause-leaves g c =
    let old = g.D.Disk.facts c.args.disk.now in
    let new = g.D.Disk.facts c.log_batch.new.disk in
    let e = c.args.engine.now in
    let p = c.args.planned.now in
    let after = after_batch (source_of e) (core_of e) p.batch.committed in
    let spells : IsBatch c.as_slice.result.now p.batch = subst (λ b. IsBatch b p.batch) (sym c.as_slice.ensures) c.requires.body in
    on_err c.from_residual.result (LeavesStored c.args.store.now (source_of e) (logged_of e) after new)
    (leaves_now c.args.store.now (source_of e) (logged_of e) after old new
    (moments_logged e p c.requires.plan c.requires.fits c.requires.some c.args.store.now old new c.requires.kept c.as_slice.result.now spells c.log_batch.ensures.moments))

pub returns-in_err-store-clause-moments : goal.returns-in_err-store-clause-moments
returns-in_err-store-clause-moments g c =
    let old = g.D.Disk.facts c.args.disk.now in
    let new = g.D.Disk.facts c.log_batch.new.disk in
    let p = c.args.planned.now in
    let spells : IsBatch c.as_slice.result.now p.batch = subst (λ b. IsBatch b p.batch) (sym c.as_slice.ensures) c.requires.body in
    moments_logged c.args.engine.now p c.requires.plan c.requires.fits c.requires.some c.args.store.now old new c.requires.kept c.as_slice.result.now spells c.log_batch.ensures.moments

pub returns-in_err-store-clause-cause : goal.returns-in_err-store-clause-cause
returns-in_err-store-clause-cause g c =
    let e = c.args.engine.now in
    let p = c.args.planned.now in
    let store = c.args.store.now in
    let spells : IsBatch c.as_slice.result.now p.batch = subst (λ b. IsBatch b p.batch) (sym c.as_slice.ensures) c.requires.body in
    let kept_now = KeepsStored store (source_of e) (logged_of e) in
    on_err c.from_residual.result
    (Rose (g.D.Disk.faults c.args.disk.now) (g.D.Disk.faults c.log_batch.new.disk) ⊎ (RecordEndsPast (Some store) p.batch × kept_now (g.D.Disk.facts c.log_batch.new.disk)))
    (elim c.in_err-store.ensures.cause [
      | inl rose ↦ inl rose
      | inr past ↦ inr (record_past store c.as_slice.result.now p.batch spells past, subst (λ disk. kept_now (g.D.Disk.facts disk)) (sym (c.log_batch.ensures.past_end past).1) c.requires.kept)
    ])

pub returns-clause-logged : goal.returns-clause-logged
returns-clause-logged g c =
    let old = g.D.Disk.facts c.args.disk.now in
    let new = g.D.Disk.facts c.log_batch.new.disk in
    let p = c.args.planned.now in
    let spells : IsBatch c.as_slice.result.now p.batch = subst (λ b. IsBatch b p.batch) (sym c.as_slice.ensures) c.requires.body in
    keeps_logged c.args.engine.now p c.requires.plan c.requires.fits c.requires.some c.args.store.now old new c.requires.kept c.as_slice.result.now spells
    c.in_ok-store.field-0 c.in_ok-store.ensures.next c.in_ok-store.ensures.kept

pub returns-clause-moments : goal.returns-clause-moments
returns-clause-moments g c =
    let old = g.D.Disk.facts c.args.disk.now in
    let new = g.D.Disk.facts c.log_batch.new.disk in
    let p = c.args.planned.now in
    let spells : IsBatch c.as_slice.result.now p.batch = subst (λ b. IsBatch b p.batch) (sym c.as_slice.ensures) c.requires.body in
    moments_logged c.args.engine.now p c.requires.plan c.requires.fits c.requires.some c.args.store.now old new c.requires.kept c.as_slice.result.now spells c.log_batch.ensures.moments
