use Rattle.std.proofs.Common.{Err, arith, subst, sym, ◌∙◌}
use Rattle.std.proofs.lemmas.Result.{err_from_is_err_and}
use Rattle.py_lexer.specs.LogicalLines.{found, stops, reaches, Nothing, IsToken, IsGap, innermost}
use Rattle.py_lexer.specs.Views.{plain_token, Closes, Comes}
use Rattle.py_lexer.specs.Spans.{IsOf, Rise}
use Rattle.py_lexer.proofs.SpanLaws.{rise_more, closed_rise}
use Rattle.py_lexer.proofs.LineRules.{tokens_pass, tokens_closed, tokens_fail, tokens_gap_fails}
use Rattle.py_lexer.proofs.scan.tokens.Goals as goal

pub returns-in_err-token-clause-comes : goal.returns-in_err-token-clause-comes
returns-in_err-token-clause-comes c =
    let p = err_from_is_err_and c.from_residual.result c.from_residual.ensures.1 in
    rw (p.1, p.2) (tokens_fail (plain_token c.args.text.now.text) c.args.text.now c.tokens.brackets.items c.tokens.text c.tokens.items c.in_err-token.field-0.0 c.tokens.invariant.so_far c.in_err-token.ensures.comes)

pub returns-in_err-pass_gap-clause-comes : goal.returns-in_err-pass_gap-clause-comes
returns-in_err-pass_gap-clause-comes c =
    let p = err_from_is_err_and c.from_residual-in_err-pass_gap.result c.from_residual-in_err-pass_gap.ensures.1 in
    let t : IsToken c.tokens.text (found (plain_token c.args.text.now.text c.in_ok-token.token) c.one_token.new.text) = subst (λ w. IsToken c.tokens.text (found (plain_token w c.in_ok-token.token) c.one_token.new.text)) c.tokens.invariant.same_text c.in_ok-token.ensures.comes in
    rw (p.1, p.2) (tokens_gap_fails (plain_token c.args.text.now.text) c.args.text.now c.tokens.brackets.items c.note_bracket.new.brackets.items c.tokens.text c.one_token.new.text c.tokens.items c.in_ok-token.token c.in_err-pass_gap.field-0.0 c.tokens.invariant.so_far t (c.in_ok-note_bracket.ensures.behind c.args.text.now.text) (subst (λ d. IsGap d c.one_token.new.text (stops c.in_err-pass_gap.field-0.0)) (c.len.ensures ∙ c.note_bracket.new.brackets.ok.0) c.in_err-pass_gap.ensures.comes))

pub returns-then-ends-clause-comes : goal.returns-then-ends-clause-comes
returns-then-ends-clause-comes c =
    let t : IsToken c.tokens.text (found (plain_token c.args.text.now.text c.in_ok-token.token) c.one_token.new.text) = subst (λ w. IsToken c.tokens.text (found (plain_token w c.in_ok-token.token) c.one_token.new.text)) c.tokens.invariant.same_text c.in_ok-token.ensures.comes in
    tokens_closed (plain_token c.args.text.now.text) c.args.text.now c.tokens.brackets.items c.note_bracket.new.brackets.items c.tokens.text c.one_token.new.text c.pass_gap.new.text c.tokens.items c.push.new.self c.in_ok-token.token c.closed.result c.tokens.invariant.so_far t (c.in_ok-note_bracket.ensures.behind c.args.text.now.text) (subst (λ d. IsGap d c.one_token.new.text (reaches c.pass_gap.new.text)) (c.len.ensures ∙ c.note_bracket.new.brackets.ok.0) c.in_ok-pass_gap.ensures.comes) (sym c.if-ends.ensures.ends) c.in_ok-push.ensures.ok (subst (λ b. Closes (innermost b) c.push.new.self c.closed.result) c.deref.ensures.value c.closed.ensures)

pub returns-then-ends-clause-rise : goal.returns-then-ends-clause-rise
returns-then-ends-clause-rise c =
    closed_rise c.args.text.now.text c.args.text.now.at c.pass_gap.new.text.at c.push.new.self (innermost c.note_bracket.new.brackets.items) c.closed.result (subst (λ ts. Rise c.args.text.now.text c.args.text.now.at ts c.pass_gap.new.text.at) (sym c.in_ok-push.ensures.ok) (rise_more c.args.text.now.text c.args.text.now.at c.tokens.text.at c.pass_gap.new.text.at c.tokens.items c.in_ok-token.token c.tokens.invariant.rises (omega (arith, c.in_ok-token.ensures.spans.0)) (subst (λ w. IsOf w c.in_ok-token.token) c.tokens.invariant.same_text c.in_ok-token.ensures.of) (omega (arith, c.in_ok-token.ensures.spans.1, c.pass_gap.ensures.forward)))) (subst (λ b. Closes (innermost b) c.push.new.self c.closed.result) c.deref.ensures.value c.closed.ensures)

pub tokens-preserved : goal.tokens-preserved
tokens-preserved c =
    let t : IsToken c.tokens.text (found (plain_token c.args.text.now.text c.in_ok-token.token) c.one_token.new.text) = subst (λ w. IsToken c.tokens.text (found (plain_token w c.in_ok-token.token) c.one_token.new.text)) c.tokens.invariant.same_text c.in_ok-token.ensures.comes in
    record {
      so_far = tokens_pass (plain_token c.args.text.now.text) c.args.text.now c.tokens.brackets.items c.note_bracket.new.brackets.items c.tokens.text c.one_token.new.text c.pass_gap.new.text c.tokens.items c.push.new.self c.in_ok-token.token c.tokens.invariant.so_far t (c.in_ok-note_bracket.ensures.behind c.args.text.now.text) (subst (λ d. IsGap d c.one_token.new.text (reaches c.pass_gap.new.text)) (c.len.ensures ∙ c.note_bracket.new.brackets.ok.0) c.in_ok-pass_gap.ensures.comes) (sym c.if-ends.ensures.ends) c.in_ok-push.ensures.ok;
      rises = subst (λ ts. Rise c.args.text.now.text c.args.text.now.at ts c.pass_gap.new.text.at) (sym c.in_ok-push.ensures.ok) (rise_more c.args.text.now.text c.args.text.now.at c.tokens.text.at c.pass_gap.new.text.at c.tokens.items c.in_ok-token.token c.tokens.invariant.rises (omega (arith, c.in_ok-token.ensures.spans.0)) (subst (λ w. IsOf w c.in_ok-token.token) c.tokens.invariant.same_text c.in_ok-token.ensures.of) (omega (arith, c.in_ok-token.ensures.spans.1, c.pass_gap.ensures.forward)));
      no_longer = omega (arith, c.in_ok-token.ensures.shorter, c.in_ok-pass_gap.ensures.no_longer, c.tokens.invariant.no_longer);
      same_text = c.pass_gap.ensures.same_text ∙ (c.one_token.ensures.same_text ∙ c.tokens.invariant.same_text);
    }
