use Rattle.std.proofs.lemmas.Bool.{false≢true}
use Rattle.std.proofs.Common.{◌≡◌, ◌++◌, ◌∙◌, IfSome, sym, subst, arith}
use Rattle.sf_bytes.specs.ByteForms.{long_bytes}
use Rattle.sf_bytes.specs.Gates.{StandsAt}
use Rattle.sf_outside.specs.DiskModel.{of_file}
use Rattle.snapshot_store.specs.Answers.{SaysNumber}
use Rattle.snapshot_store.proofs.Slots.{seen_short, seen_foreign, seen_claims}
use Rattle.snapshot_store.proofs.reading.kept_open.Goals as goal

pub returns-in_default-clause-answer : goal.returns-in_default-clause-answer
returns-in_default-clause-answer g c =
    let seen = (g.D.Disk.facts c.args.disk.now).seen in
    seen_short c.args.file seen c.args.slot c.requires 1 (omega arith) (subst (λ n. IfSome seen (λ now. SaysNumber (of_file c.args.file now) 1 n)) c.in_default.is c.in_ok-epoch.ensures.answer)

pub returns-in_default-2-clause-answer : goal.returns-in_default-2-clause-answer
returns-in_default-2-clause-answer g c =
    let seen = (g.D.Disk.facts c.args.disk.now).seen in
    let there = subst (λ some. IfSome some (λ now. SaysNumber (of_file c.args.file now) 9 c.in_ok-len.field-0)) c.number_at.ensures.stays.seen c.in_ok-len.ensures.answer in
    seen_short c.args.file seen c.args.slot c.requires 9 (omega arith) (subst (λ n. IfSome seen (λ now. SaysNumber (of_file c.args.file now) 9 n)) c.in_default-2.is there)

pub returns-then-not-is_own-clause-answer : goal.returns-then-not-is_own-clause-answer
returns-then-not-is_own-clause-answer g c =
    let seen = (g.D.Disk.facts c.args.disk.now).seen in
    seen_foreign c.args.file seen c.args.slot c.requires c.in-Some.epoch (omega arith) (λ in_range own. false≢true (c.if-not-is_own.ensures.1 (in_range, own)))
    (subst (λ n. IfSome seen (λ now. SaysNumber (of_file c.args.file now) 1 n)) c.in-Some.is c.in_ok-epoch.ensures.answer)

pub kept_behind-requires-clause-claims : goal.kept_behind-requires-clause-claims
kept_behind-requires-clause-claims g c =
    let file = c.args.file in
    let seen = (g.D.Disk.facts c.args.disk.now).seen in
    let epoch = c.in-Some.epoch in
    let len = c.in-Some-2.len in
    let first = subst (λ n. IfSome seen (λ now. SaysNumber (of_file file now) 1 n)) c.in-Some.is c.in_ok-epoch.ensures.answer in
    let there = subst (λ some. IfSome some (λ now. SaysNumber (of_file file now) 9 c.in_ok-len.field-0)) c.number_at.ensures.stays.seen c.in_ok-len.ensures.answer in
    let second = subst (λ n. IfSome seen (λ now. SaysNumber (of_file file now) 9 n)) c.in-Some-2.is there in
    let same : (g.D.Disk.facts c.number_at-2.new.disk).seen ≡ seen = c.number_at-2.ensures.stays.seen ∙ c.number_at.ensures.stays.seen in
    subst (λ some. IfSome some (λ now. StandsAt (of_file file now) 1 (long_bytes epoch ++ long_bytes len))) (sym same) (seen_claims file seen epoch len first second)
