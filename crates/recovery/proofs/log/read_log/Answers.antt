use Rattle.std.proofs.Common.{Ok, Err, IfSome, ap, sym, subst, ◌∙◌, arith}
use Rattle.std.proofs.lemmas.Result.{err_from_is_err_and}
use Rattle.sf_outside.specs.DiskModel.{of_file}
use Rattle.sf_outside.proofs.DiskLaws.{Stays-then}
use Rattle.request_log.specs.Answers.{Answers, IsPlaced}
use Rattle.recovery.specs.Answers.{AnswersLog}
use Rattle.recovery.proofs.Logs.{logged_next, seen_next, seen_end, seen_fault}
use Rattle.recovery.proofs.log.read_log.Goals as goal

pub loop-batches-preserved : goal.loop-batches-preserved
loop-batches-preserved g c =
    let old = g.D.Disk.facts c.args.disk.now in
    let mid = g.D.Disk.facts c.loop-batches.disk in
    let new = g.D.Disk.facts c.next.new.disk in
    let before = c.loop-batches.invariant in
    let batches = c.loop-batches.batches in
    let at = c.loop-batches.at in
    let found = c.in-Some.found in
    let there = subst (λ answer. IfSome mid.seen (λ now. Answers (of_file c.args.file now) at (Ok answer))) c.in-Some.is c.in_ok-found.ensures.answer in
    let here = subst (λ answer. IsPlaced at (Ok answer)) c.in-Some.is c.in_ok-found.ensures.placed in
    record {
      logged = logged_next batches at found.batch found.next c.push.new.self c.in_ok-push.ensures.ok here before.logged;
      seen = seen_next c.args.file old.seen mid.seen before.stays.seen batches at before.seen found.batch found.next c.push.new.self c.in_ok-push.ensures.ok there;
      stays = Stays-then old mid new before.stays c.next.ensures.stays;
      later = omega (arith, before.later, c.next.ensures.later);
      mounts = c.next.ensures.mounts ∙ before.mounts;
    }

pub returns-in_err-found-clause-answer : goal.returns-in_err-found-clause-answer
returns-in_err-found-clause-answer g c =
    let old = g.D.Disk.facts c.args.disk.now in
    let mid = g.D.Disk.facts c.loop-batches.disk in
    let before = c.loop-batches.invariant in
    let passed = err_from_is_err_and c.from_residual.result c.from_residual.ensures.1 in
    subst (λ answer. IfSome old.seen (λ now. AnswersLog (of_file c.args.file now) answer)) (sym (passed.1 ∙ ap Err passed.2))
    (seen_fault c.args.file old.seen mid.seen before.stays.seen c.loop-batches.batches c.loop-batches.at before.seen c.in_err-found.field-0.0 c.in_err-found.ensures.answer c.in_err-found.ensures.placed)

pub returns-clause-answer : goal.returns-clause-answer
returns-clause-answer g c =
    let old = g.D.Disk.facts c.args.disk.now in
    let mid = g.D.Disk.facts c.loop-batches.disk in
    let before = c.loop-batches.invariant in
    let at = c.loop-batches.at in
    let closed = subst (λ answer. IfSome mid.seen (λ now. Answers (of_file c.args.file now) at (Ok answer))) c.in_default.is c.in_ok-found.ensures.answer in
    seen_end c.args.file old.seen mid.seen before.stays.seen c.loop-batches.batches at before.seen closed
