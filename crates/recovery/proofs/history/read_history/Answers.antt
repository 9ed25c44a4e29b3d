use Rattle.std.proofs.Common.{◌≡◌, length, take, drop, min, IfSome, subst, ◌∙◌, arith}
use Rattle.std.proofs.lemmas.List.{take_at}
use Rattle.sf_outside.specs.Bytes.{CopiedAll}
use Rattle.recovery.specs.Answers.{AnswersHistory}
use Rattle.recovery.proofs.NamedEntries.{seen_history}
use Rattle.recovery.proofs.history.read_history.Goals as goal

pub returns-clause-answer : goal.returns-clause-answer
returns-clause-answer g c =
    let seen = (g.D.Disk.facts c.args.disk.now).seen in
    let kept = c.args.kept in
    let bytes = c.args.bytes in
    let buf = c.read_at.new.buf in
    let count = c.in_ok-count.count in
    let copied = subst (λ seen. IfSome seen (λ now. CopiedAll now.hist 0 count buf)) c.len.ensures.stays.seen c.in_ok-count.ensures.bytes in
    let long : length buf ≡ min c.in_ok-end.end bytes = omega (arith, c.read_at.auto.buf, c.deref_mut.ensures.len, c.in_ok-named.ensures.len, c.min.ensures) in
    let same : c.deref.result.now ≡ buf = c.deref.ensures.value ∙ take_at buf (drop (length buf) c.in_ok-named.named.items) c.in_ok-named.named.len (omega (arith, c.read_at.auto.buf, c.deref_mut.ensures.len)) in
    let answer = subst (λ front. AnswersHistory (take count front) kept bytes c.entries_in.result) same c.entries_in.ensures.answer in
    seen_history seen c.in_ok-end.end kept bytes count buf c.entries_in.result c.in_ok-end.ensures.value copied long answer
