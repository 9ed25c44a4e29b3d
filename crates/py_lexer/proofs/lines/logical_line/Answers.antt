use Rattle.std.proofs.Common.{map, subst, sym}
use Rattle.std.proofs.lemmas.Result.{err_from_is_err_and}
use Rattle.py_lexer.specs.LogicalLines.{IsColumn, found}
use Rattle.py_lexer.specs.OpenColumns.{AreOpen}
use Rattle.py_lexer.specs.Views.{plain_line, plain_token}
use Rattle.py_lexer.proofs.ColumnLaws.{opens}
use Rattle.py_lexer.proofs.LineRules.{line_misplaced_by, line_fails}
use Rattle.py_lexer.proofs.lines.logical_line.Goals as goal

pub returns-in_err-column-clause-comes : goal.returns-in_err-column-clause-comes
returns-in_err-column-clause-comes c before are =
    let p = err_from_is_err_and c.from_residual.result c.from_residual.ensures.1 in
    rw (p.1, p.2) (line_misplaced_by before c.args.begin.now c.in_err-column.field-0.0 (c.in_err-column.ensures before (subst (λ k. AreOpen k before) (sym c.deref.ensures.value) are)))

pub returns-in_err-tokens-clause-comes : goal.returns-in_err-tokens-clause-comes
returns-in_err-tokens-clause-comes c before are =
    let p = err_from_is_err_and c.from_residual-in_err-tokens.result c.from_residual-in_err-tokens.ensures.1 in
    let column : IsColumn before c.args.begin.now (found c.in_ok-column.column c.args.text.now) = c.in_ok-column.ensures before (subst (λ k. AreOpen k before) (sym c.deref.ensures.value) are) in
    rw (p.1, p.2) (line_fails before c.args.begin.now c.args.text.now c.tokens.new.text c.tokens.new.text c.in_ok-column.column (plain_line c.args.text.now.text) (map (plain_token c.args.text.now.text)) c.in_err-tokens.field-0.0 column c.in_err-tokens.ensures.comes)

pub returns-clause-opens : goal.returns-clause-opens
returns-clause-opens c before are = rw c.in_ok-open_column.ensures (opens c.in_ok-column.column c.args.kept.now.items before are)
