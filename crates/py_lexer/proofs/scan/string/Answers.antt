use Rattle.std.proofs.Common.{◌∙◌, ◌≤◌, length, ap, subst, arith}
use Rattle.py_lexer.specs.Cursor.{byte, moved}
use Rattle.py_lexer.proofs.SpanLaws.{string_is_of}
use Rattle.std.proofs.lemmas.Result.{err_from_is_err_and}
use Rattle.py_lexer.specs.Views.{plain_token}
use Rattle.py_lexer.proofs.Rules.{string_fails}
use Rattle.py_lexer.proofs.scan.string.Goals as goal

pub returns-in_err-pass_body-clause-comes : goal.returns-in_err-pass_body-clause-comes
returns-in_err-pass_body-clause-comes c =
    let p = err_from_is_err_and c.from_residual.result c.from_residual.ensures.1 in
    rw (p.1, p.2) (string_fails c.args.text.now c.copy-start.result c.pass.new.self c.quote_at-quote.result c.in_err-pass_body.field-0.0 c.copy-start.ensures c.quote_at-quote.ensures.quote c.in_err-pass_body.ensures.comes (c.pass.ensures.moved ∙ ap (λ n. moved n c.args.text.now) c.len.ensures))

pub returns-clause-of : goal.returns-clause-of
unfolding byte
returns-clause-of c =
    let within : c.pass_body.new.text.at ≤ length c.args.text.now.text = subst (λ w. c.pass_body.new.text.at ≤ length w) (c.pass_body.ensures.same_text ∙ c.pass.ensures.same_text) (omega (arith, c.token.ensures.within, c.token.ensures.end)) in
    string_is_of c.args.text.now c.pass_body.new.text c.quote_at-quote.result c.pass.new.self c.token.result c.quote_at-quote.ensures.quote c.requires.some c.requires.ascii (c.pass.ensures.moved ∙ ap (λ n. moved n c.args.text.now) c.len.ensures) c.in_ok-pass_body.ensures.closed c.requires.utf8 within (c.token.ensures.start ∙ ap (λ i. i.at) c.copy-start.ensures) c.token.ensures.end c.token.ensures.line c.token.ensures.col
