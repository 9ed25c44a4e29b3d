use Rattle.std.proofs.Common.{◌≡◌}
use Rattle.py_lexer.specs.Cursor.{bytes_left}
use Rattle.py_lexer.specs.OpenColumns.{AreOpen}
use Rattle.py_lexer.specs.Spans.{LinesRise}
use Rattle.py_lexer.specs.Views.{plain_line}
use Rattle.py_lexer.proofs.LineRules.{LinesGoOn, columns_of}
use Rattle.py_lexer.proofs.lines.lines.Given as goal

abbrev pub invariant-lines : goal.invariant-lines
invariant-lines l = record { so_far : LinesGoOn (plain_line l.fn.text.text) l.fn.text l.text l.items; columns : AreOpen l.kept.items (columns_of l.items); rises : LinesRise l.fn.text.text l.fn.text.at l.items l.text.at; same_text : l.text.text ≡ l.fn.text.text }

abbrev pub decreases-lines : goal.decreases-lines
decreases-lines l = bytes_left l.text
