use Rattle.std.proofs.Common.{◌≡◌, ◌≤◌}
use Rattle.py_lexer.specs.Cursor.{bytes_left}
use Rattle.py_lexer.specs.LogicalLines.{IsComment}
use Rattle.py_lexer.proofs.Rules.{LeadsOn}
use Rattle.py_lexer.proofs.gaps.pass_comment.Given as goal

abbrev pub invariant-comment : goal.invariant-comment
invariant-comment l = record { so_far : LeadsOn IsComment l.fn.text l.text; no_longer : bytes_left l.text ≤ bytes_left l.fn.text; forward : l.fn.text.at ≤ l.text.at; same_text : l.text.text ≡ l.fn.text.text }

abbrev pub decreases-comment : goal.decreases-comment
decreases-comment l = bytes_left l.text
