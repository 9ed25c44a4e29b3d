use Rattle.std.proofs.Common.{◌≡◌, ◌+◌, ◌∷◌, length, drop, subst, ◌∙◌, IfSome, ap, sym, arith}
use Rattle.std.proofs.lemmas.List.{take_at}
use Rattle.sf_bytes.specs.ByteForms.{number_bytes}
use Rattle.sf_outside.specs.Bytes.{CopiedAll}
use Rattle.sf_outside.specs.DiskModel.{of_file}
use Rattle.sf_outside.proofs.ImageSteps.{if_both}
use Rattle.request_log.specs.Answers.{SaysBatch}
use Rattle.sf_bytes.specs.Gates.{open_gate, StandsAt}
use Rattle.request_log.specs.LogFile.{gate_behind, IsBadAt}
use Rattle.request_log.proofs.Records.{too_short, seen_record, seen_bad}
use Rattle.request_log.proofs.reading.record_of.Goals as goal

pub returns-then-saturating_sub-len-clause-answer : goal.returns-then-saturating_sub-len-clause-answer
returns-then-saturating_sub-len-clause-answer g c =
    let old = g.D.Disk.facts c.args.disk.now in
    let file = c.args.file in
    if_both old.seen (λ now. StandsAt (of_file file now) c.args.at (open_gate ∷ number_bytes c.args.len)) (λ now. c.in_ok-end.end ≡ length (of_file file now)) (λ now. IsBadAt (of_file file now) c.args.at)
    (λ now claims len. too_short (of_file file now) c.args.at c.args.len (omega (arith, c.ranges.len.fits)) claims (omega (arith, len, c.if-saturating_sub-len.true, c.saturating_sub.ensures)))
    c.requires c.in_ok-end.ensures.value

pub returns-in-Some-clause-answer : goal.returns-in-Some-clause-answer
returns-in-Some-clause-answer g c =
    let old = g.D.Disk.facts c.args.disk.now in
    let file = c.args.file in
    let buf = c.read_at.new.buf in
    let long : length buf ≡ c.in_ok-body.body.len = omega (arith, c.read_at.auto.buf, c.deref_mut.ensures.len) in
    let all : c.in_ok-body.body.len ≡ c.args.len = omega (arith, c.in_ok-body.ensures.len) in
    let same : c.deref.result.now ≡ buf = c.deref.ensures.value ∙ take_at buf (drop (length buf) c.in_ok-body.body.items) c.in_ok-body.body.len long in
    let whole : SaysBatch buf c.in_ok-batch.field-0 = subst (λ bytes. SaysBatch bytes c.in_ok-batch.field-0) same c.in_ok-batch.ensures in
    let copied = subst (λ seen. IfSome seen (λ now. CopiedAll (of_file file now) (c.args.at + 5) c.in_ok-count.count buf)) c.len.ensures.stays.seen c.in_ok-count.ensures.bytes in
    seen_record file old.seen c.args.at c.args.len c.in_ok-count.count buf (omega (arith, c.ranges.len.fits)) c.requires copied (omega (arith, long, all))
    (omega (arith, all, c.if-count-len.false, c.len-2.ensures)) c.in-Some.batch (subst (SaysBatch buf) c.in-Some.is whole)

pub returns-in-Some-clause-placed : goal.returns-in-Some-clause-placed
returns-in-Some-clause-placed g c =
    let body = c.deref.result.now in
    let long : length body ≡ c.args.len = omega (arith, c.in_ok-body.ensures.len, c.read_at.auto.buf, c.deref_mut.ensures.len, ap length c.deref.ensures.value) in
    (body, subst (SaysBatch body) c.in-Some.is c.in_ok-batch.ensures, ap (gate_behind c.args.at) (sym long))

pub returns-clause-answer : goal.returns-clause-answer
returns-clause-answer g c =
    let old = g.D.Disk.facts c.args.disk.now in
    let file = c.args.file in
    let buf = c.read_at.new.buf in
    let long : length buf ≡ c.in_ok-body.body.len = omega (arith, c.read_at.auto.buf, c.deref_mut.ensures.len) in
    let all : c.in_ok-body.body.len ≡ c.args.len = omega (arith, c.in_ok-body.ensures.len) in
    let same : c.deref.result.now ≡ buf = c.deref.ensures.value ∙ take_at buf (drop (length buf) c.in_ok-body.body.items) c.in_ok-body.body.len long in
    let whole : SaysBatch buf c.in_ok-batch.field-0 = subst (λ bytes. SaysBatch bytes c.in_ok-batch.field-0) same c.in_ok-batch.ensures in
    let copied = subst (λ seen. IfSome seen (λ now. CopiedAll (of_file file now) (c.args.at + 5) c.in_ok-count.count buf)) c.len.ensures.stays.seen c.in_ok-count.ensures.bytes in
    seen_bad file old.seen c.args.at c.args.len c.in_ok-count.count buf (omega (arith, c.ranges.len.fits)) c.requires copied (omega (arith, long, all))
    (omega (arith, all, c.if-count-len.false, c.len-2.ensures)) (subst (SaysBatch buf) c.in-None.is whole)
