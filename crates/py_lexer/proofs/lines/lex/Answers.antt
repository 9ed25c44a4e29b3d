use Rattle.std.proofs.Common.{[], map, subst, arith, length}
use Rattle.std.specs.Prelude.{IfOk}
use Rattle.py_lexer.specs.LogicalLines.{IsLines}
use Rattle.py_lexer.specs.Spans.{LinesRise}
use Rattle.py_lexer.specs.Views.{plain_line, Comes}
use Rattle.py_lexer.proofs.LineRules.{text_fits}
use Rattle.py_lexer.proofs.lines.lex.Goals as goal

pub returns : goal.returns
returns c = record {
  lines = text_fits c.args.text.now c.lines.result c.lines.new.text (omega (arith, c.if-text-gt-LONGEST.false)) (subst (λ i. Comes (map (plain_line i.text)) (IsLines [] i) c.lines.result c.lines.new.text) c.new-cursor.ensures c.lines.ensures.comes);
  spans = subst (λ i. IfOk c.lines.result (λ ls. LinesRise i.text i.at ls (length i.text))) c.new-cursor.ensures c.lines.ensures.rise;
}
