use Rattle.std.proofs.Common.{◌≡◌, length, drop, subst, ◌∙◌, IfSome, arith}
use Rattle.std.proofs.lemmas.List.{take_at}
use Rattle.sf_outside.specs.Bytes.{CopiedAll}
use Rattle.sf_outside.specs.DiskModel.{of_file}
use Rattle.snapshot_store.specs.Answers.{SaysHead}
use Rattle.snapshot_store.proofs.Slots.{seen_cut, seen_other, seen_found}
use Rattle.snapshot_store.proofs.reading.kept_behind.Goals as goal

pub returns-then-saturating_sub-len-clause-answer : goal.returns-then-saturating_sub-len-clause-answer
returns-then-saturating_sub-len-clause-answer g c =
    seen_cut c.args.file (g.D.Disk.facts c.args.disk.now).seen c.args.slot c.requires.open c.args.epoch c.args.len c.in_ok-end.end (omega (arith, c.ranges.len.fits)) c.requires.claims c.in_ok-end.ensures.value
    (omega (arith, c.if-saturating_sub-len.true, c.saturating_sub.ensures))

pub returns-in-Some-clause-answer : goal.returns-in-Some-clause-answer
returns-in-Some-clause-answer g c =
    let file = c.args.file in
    let buf = c.read_at.new.buf in
    let long : length buf ≡ c.in_ok-body.body.len = omega (arith, c.read_at.auto.buf, c.deref_mut.ensures.len) in
    let all : c.in_ok-body.body.len ≡ c.args.len = omega (arith, c.in_ok-body.ensures.len) in
    let same : c.deref.result.now ≡ buf = c.deref.ensures.value ∙ take_at buf (drop (length buf) c.in_ok-body.body.items) c.in_ok-body.body.len long in
    let whole : SaysHead buf c.in_ok-head.field-0 = subst (λ bytes. SaysHead bytes c.in_ok-head.field-0) same c.in_ok-head.ensures in
    let copied = subst (λ seen. IfSome seen (λ now. CopiedAll (of_file file now) 17 c.in_ok-count.count buf)) c.len.ensures.stays.seen c.in_ok-count.ensures.bytes in
    seen_found file (g.D.Disk.facts c.args.disk.now).seen c.args.slot c.requires.open c.args.epoch c.args.len c.in_ok-end.end (omega (arith, c.ranges.len.fits)) c.requires.claims c.in_ok-count.count buf copied (omega (arith, long, all))
    (omega (arith, all, c.if-count-len.false, c.len-2.ensures)) c.requires.epoch c.requires.own c.in-Some.head (subst (SaysHead buf) c.in-Some.is whole)

pub returns-clause-answer : goal.returns-clause-answer
returns-clause-answer g c =
    let file = c.args.file in
    let buf = c.read_at.new.buf in
    let long : length buf ≡ c.in_ok-body.body.len = omega (arith, c.read_at.auto.buf, c.deref_mut.ensures.len) in
    let all : c.in_ok-body.body.len ≡ c.args.len = omega (arith, c.in_ok-body.ensures.len) in
    let same : c.deref.result.now ≡ buf = c.deref.ensures.value ∙ take_at buf (drop (length buf) c.in_ok-body.body.items) c.in_ok-body.body.len long in
    let whole : SaysHead buf c.in_ok-head.field-0 = subst (λ bytes. SaysHead bytes c.in_ok-head.field-0) same c.in_ok-head.ensures in
    let copied = subst (λ seen. IfSome seen (λ now. CopiedAll (of_file file now) 17 c.in_ok-count.count buf)) c.len.ensures.stays.seen c.in_ok-count.ensures.bytes in
    seen_other file (g.D.Disk.facts c.args.disk.now).seen c.args.slot c.requires.open c.args.epoch c.args.len c.in_ok-end.end (omega (arith, c.ranges.len.fits)) c.requires.claims c.in_ok-count.count buf copied (omega (arith, long, all))
    (omega (arith, all, c.if-count-len.false, c.len-2.ensures)) (subst (SaysHead buf) c.in-None.is whole)
