use Rattle.std.proofs.Common.{Ok, subst}
use Rattle.recovery.specs.Answers.{Answers, IsPlaced}
use Rattle.store_meaning.specs.declared.position.Position.{Position}
use Rattle.store_opening.specs.OpenedStores.{program_for}
use Rattle.store_opening.proofs.Found.{old_judged, stop_judged}
use Rattle.store_opening.proofs.finding.judge.Goals as goal

pub entries_in-entries-requires : goal.entries_in-entries-requires
entries_in-entries-requires c =
    let placed = subst (λ o. IsPlaced (Ok o)) c.in-Old.is c.requires.placed in
    placed.1.0.1.0.0

pub returns-in-Ok-clause-answer : goal.returns-in-Ok-clause-answer
returns-in-Ok-clause-answer c = λ image found.
    let position : Position = record { epoch = c.in-Old.epoch; at = c.in-Old.at; bytes = c.in-Old.bytes; kept = c.entries_in-entries.result } in
    let placed = subst (λ o. IsPlaced (Ok o)) c.in-Old.is c.requires.placed in
    old_judged (program_for c.args.compiled c.args.settings.program) image c.in-Ok.store position placed.0 c.in-Ok.ensures.position
    (c.in-Ok.ensures.answer image (subst (λ o. Answers image (Ok o)) c.in-Old.is found))

pub returns-in-Err-clause-answer : goal.returns-in-Err-clause-answer
returns-in-Err-clause-answer c = λ image found.
    stop_judged (program_for c.args.compiled c.args.settings.program) image c.in-Err.stop
    (c.in-Err.ensures.answer image (subst (λ o. Answers image (Ok o)) c.in-Old.is found))
