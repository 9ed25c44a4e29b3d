use Rattle.std.proofs.Common.{◌∙◌, ◌+◌, ◌*◌, ap, sym, subst, length, [], ◌∷◌, ◌++◌, arith}
use Rattle.std.specs.Prelude.{bytes_eq}
use Rattle.program_meaning.specs.Sources.{source_of}
use Rattle.run_audit.specs.declared.verdict.Verdict.TheVariants as verdict
use Rattle.run_audit.specs.Judging.{behind_odd, Decides}
use Rattle.run_audit.specs.Standings.{shown_line}
use Rattle.run_audit.proofs.JudgingLaws.{Decides-long}
use Rattle.run_audit.proofs.JudgeSteps.{hear_differs, hear_passes}
use Rattle.run_audit.proofs.judging.Judge.hear.Goals as goal

pub returns-then-not-is_reply-clause-judges : goal.returns-then-not-is_reply-clause-judges
returns-then-not-is_reply-clause-judges c =
    let src = source_of c.args.program.now in
    let ids = c.args.self.now.ids.keys in
    let line = shown_line c.args.ended c.args.line.now in
    let long = sym c.is_reply.ensures ∙ c.if-not-is_reply.true in
    subst (λ n. Decides src (behind_odd ids c.args.self.now.local c.args.request) line (verdict.BadRun (2 * n + 2))) (sym c.len.ensures.len)
    (Decides-long src ids c.args.self.now.local c.args.request line long)

pub returns-then-not-is_same-clause-judges : goal.returns-then-not-is_same-clause-judges
returns-then-not-is_same-clause-judges c =
    hear_differs (source_of c.args.program.now) c.args.self.now.ids.keys c.args.self.now.local c.args.request (shown_line c.args.ended c.args.line.now)
    c.in_ok-wanted.wanted c.in_ok-found.found c.is_same.result _ (sym c.is_reply.ensures ∙ c.if-not-is_reply.false) (omega (arith, c.len-then-not-is_same.ensures.len, ap (λ ids. length ids.keys) c.wanted.ensures.ids)) c.in_ok-wanted.ensures.line
    (c.in_ok-found.ensures ∙ c.content-found.ensures) (c.is_same.ensures ∙ ap (λ f. bytes_eq f c.in_ok-wanted.wanted) (sym c.in_ok-found.ensures)) c.if-not-is_same.true

pub returns-clause-judges : goal.returns-clause-judges
returns-clause-judges c =
    hear_passes (source_of c.args.program.now) c.args.self.now.ids.keys c.args.self.now.local c.args.request (shown_line c.args.ended c.args.line.now)
    c.in_ok-wanted.wanted c.content-found.result.now c.is_same.result _ _ _ (sym c.is_reply.ensures ∙ c.if-not-is_reply.false) c.in_ok-wanted.ensures.line
    c.content-found.ensures c.is_same.ensures c.if-not-is_same.false
    (c.in_ok-keep.ensures.ids ∙ ap (λ ids. ids.keys ++ c.args.request.id ∷ []) c.wanted.ensures.ids) (c.in_ok-keep.ensures.local ∙ c.in_ok-wanted.ensures.state)
    (c.in_ok-keep.ensures.asked ∙ c.wanted.ensures.asked ∙ c.requires.none)
