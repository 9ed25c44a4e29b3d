use Rattle.std.proofs.Common.{Ok, IfSome, subst, sym}
use Rattle.snapshot_store.specs.Answers.{Answers, AnswersSlot}
use Rattle.snapshot_store.proofs.Slots.{seen_both}
use Rattle.snapshot_store.proofs.reading.newest.Goals as goal

pub returns-clause-answer : goal.returns-clause-answer
returns-clause-answer g c =
    let seen = (g.D.Disk.facts c.args.disk.now).seen in
    let second = subst (λ some. IfSome some (λ now. AnswersSlot 1 now.snap1 (Ok c.in_ok-second.second))) c.kept_in.ensures.stays.seen c.in_ok-second.ensures.answer in
    subst (λ found. IfSome seen (λ now. Answers now (Ok found))) (sym c.newer.ensures) (seen_both seen c.in_ok-first.first c.in_ok-second.second c.in_ok-first.ensures.answer second)
