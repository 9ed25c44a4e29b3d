use Rattle.std.proofs.Common.{IfSome, Err, ap, sym, ◌∙◌, subst}
use Rattle.sf_outside.specs.DiskModel.{of_file}
use Rattle.sf_outside.proofs.ImageSteps.{if_both}
use Rattle.snapshot_store.specs.SlotFile.{log_of}
use Rattle.recovery.specs.Answers.{Answers, AnswersLog, log_fault}
use Rattle.recovery.specs.StoreImage.{EndsAt, KeepsSnapshot, IsOld}
use Rattle.recovery.proofs.StoreLogs.{seen_bad_log}
use Rattle.recovery.proofs.opening.with_log.Goals as goal

pub returns-in-Ok-clause-answer : goal.returns-in-Ok-clause-answer
returns-in-Ok-clause-answer g c =
    let seen = (g.D.Disk.facts c.args.disk.now).seen in
    let epoch = c.args.epoch in
    let log = c.in-Ok.log in
    let ends = subst (λ file. IfSome seen (λ now. EndsAt (of_file file now) log.batches log.at)) c.log_of-file.ensures c.in-Ok.ensures.answer in
    if_both seen (λ now. KeepsSnapshot now epoch c.args.kept c.args.bytes) (λ now. EndsAt (of_file (log_of epoch) now) log.batches log.at)
    (λ now. IsOld now epoch c.args.kept c.args.bytes log.batches log.at)
    (λ now newest there. record { newest = newest; log = there }) c.requires.newest ends

pub returns-in-Err-clause-answer : goal.returns-in-Err-clause-answer
returns-in-Err-clause-answer g c =
    let seen = (g.D.Disk.facts c.args.disk.now).seen in
    let epoch = c.args.epoch in
    let breaks = subst (λ file. IfSome seen (λ now. AnswersLog (of_file file now) (Err c.in-Err.fault))) c.log_of-file.ensures c.in-Err.ensures.answer in
    let told = c.log_fault.ensures ∙ ap (λ file. log_fault file c.in-Err.fault) c.log_of-file.ensures in
    subst (λ fault. IfSome seen (λ now. Answers now (Err fault))) (sym told) (seen_bad_log seen epoch c.args.kept c.args.bytes c.in-Err.fault c.requires.newest breaks)
