use Rattle.std.proofs.Common.{◌∙◌, [], ◌∷◌, ◌≤◌, length, Err, ap, sym, subst}
use Rattle.std.proofs.lemmas.List.{map-append}
use Rattle.std.proofs.lemmas.Result.{err_from_is_err_and}
use Rattle.py_lexer.specs.LogicalLines.{found, IsLine}
use Rattle.py_lexer.specs.OpenColumns.{AreOpen}
use Rattle.py_lexer.specs.Views.{plain_line, Comes}
use Rattle.py_lexer.specs.Spans.{Rise, LinesRise}
use Rattle.py_lexer.proofs.SpanLaws.{rise_wider, lines_rise_more, lines_rise_wider}
use Rattle.py_lexer.proofs.LineRules.{columns_of, lines_pass, lines_bare_fail, lines_fail}
use Rattle.py_lexer.proofs.lines.lines.Goals as goal

pub returns-in_err-pass_bare-clause-comes : goal.returns-in_err-pass_bare-clause-comes
returns-in_err-pass_bare-clause-comes c =
    let p = err_from_is_err_and c.from_residual.result c.from_residual.ensures.1 in
    rw (p.1, p.2) (lines_bare_fail (plain_line c.args.text.now.text) c.args.text.now c.lines.text c.pass_blanks.new.text c.lines.items c.in_err-pass_bare.field-0.0 c.lines.invariant.so_far (sym c.lines-test.ensures.ends) c.pass_blanks.ensures.unblanked (sym c.if-not-has_token.ensures) c.in_err-pass_bare.ensures.comes)

pub returns-in_err-line-clause-comes : goal.returns-in_err-line-clause-comes
returns-in_err-line-clause-comes c =
    let p = err_from_is_err_and c.from_residual-in_err-line.result c.from_residual-in_err-line.ensures.1 in
    rw (p.1, p.2) (lines_fail (plain_line c.args.text.now.text) c.args.text.now c.lines.text c.pass_blanks.new.text c.logical_line.new.text c.logical_line.new.text c.lines.items c.in_err-line.field-0.0 c.lines.invariant.so_far (sym c.lines-test.ensures.ends) c.pass_blanks.ensures.unblanked (sym c.if-not-has_token.ensures)
    (subst (λ i. Comes (plain_line c.args.text.now.text) (IsLine (columns_of c.lines.items) i) (Err c.in_err-line.field-0.0) c.logical_line.new.text) c.copy-begin.ensures (subst (λ w. Comes (plain_line w) (IsLine (columns_of c.lines.items) c.copy-begin.result) (Err c.in_err-line.field-0.0) c.logical_line.new.text) (c.pass_blanks.ensures.same_text ∙ c.lines.invariant.same_text) (c.in_err-line.ensures.comes (columns_of c.lines.items) c.lines.invariant.columns))))

pub lines-preserved : goal.lines-preserved
lines-preserved c = record {
  so_far = lines_pass c.args.text.now.text c.args.text.now c.lines.text c.pass_blanks.new.text c.logical_line.new.text c.pass_line-in-lines.new.self c.lines.items c.push.new.self c.in_ok-line.line c.lines.invariant.so_far (sym c.lines-test.ensures.ends) c.pass_blanks.ensures.unblanked (sym c.if-not-has_token.ensures)
      (subst (λ i. IsLine (columns_of c.lines.items) i (found (plain_line c.args.text.now.text c.in_ok-line.line) c.logical_line.new.text)) c.copy-begin.ensures (subst (λ w. IsLine (columns_of c.lines.items) c.copy-begin.result (found (plain_line w c.in_ok-line.line) c.logical_line.new.text)) (c.pass_blanks.ensures.same_text ∙ c.lines.invariant.same_text) (c.in_ok-line.ensures.comes (columns_of c.lines.items) c.lines.invariant.columns)))
      c.pass_line-in-lines.ensures.past c.in_ok-push.ensures.ok;
  columns = subst (λ cs. AreOpen c.logical_line.new.kept.items cs) (sym (ap columns_of c.in_ok-push.ensures.ok ∙ map-append (λ l. l.column) c.lines.items (c.in_ok-line.line ∷ []))) (c.in_ok-line.ensures.opens (columns_of c.lines.items) c.lines.invariant.columns);
  rises = subst (λ ls. LinesRise c.args.text.now.text c.args.text.now.at ls c.pass_line-in-lines.new.self.at) (sym c.in_ok-push.ensures.ok) (lines_rise_more c.args.text.now.text c.args.text.now.at c.lines.text.at c.pass_blanks.new.text.at c.pass_line-in-lines.new.self.at c.lines.items c.in_ok-line.line c.lines.invariant.rises c.pass_blanks.ensures.forward (rise_wider c.args.text.now.text c.pass_blanks.new.text.at c.logical_line.new.text.at c.pass_line-in-lines.new.self.at c.in_ok-line.line.tokens (subst (λ w. Rise w c.pass_blanks.new.text.at c.in_ok-line.line.tokens c.logical_line.new.text.at) (c.pass_blanks.ensures.same_text ∙ c.lines.invariant.same_text) c.in_ok-line.ensures.rise) c.pass_line-in-lines.ensures.forward));
  same_text = c.pass_line-in-lines.ensures.same_text ∙ (c.logical_line.ensures.same_text ∙ (c.pass_blanks.ensures.same_text ∙ c.lines.invariant.same_text));
}

pub returns-clause-rise : goal.returns-clause-rise
returns-clause-rise c = lines_rise_wider c.args.text.now.text c.args.text.now.at c.lines.text.at (length c.args.text.now.text) c.lines.items c.lines.invariant.rises (subst (λ w. c.lines.text.at ≤ length w) c.lines.invariant.same_text c.is_at_end.ensures.within)
