use Rattle.std.proofs.Common.{◌∙◌, sym, ap}
use Rattle.py_tree.specs.StringText.{escape}
use Rattle.py_lexer.specs.Cursor.{is_backslash}
use Rattle.py_lexer.proofs.Rules.{piece_escaped}
use Rattle.py_lexer.proofs.strings.pass_piece.Goals as goal

pub returns-clause-comes : goal.returns-clause-comes
returns-clause-comes c =
    rw c.pass-2.ensures.moved (piece_escaped c.args.text.now c.in-Some-escape_of._code c.in-Some-escape_of.len (sym c.in_default.ensures) (ap is_backslash (sym c.byte.ensures.value) ∙ sym c.if-not-is_backslash.ensures) (c.in-Some-escape_of.ensures.value ∙ ap escape c.behind.ensures.rest))
