use Rattle.std.proofs.Common.{◌≡◌, ◌≤◌}
use Rattle.py_lexer.specs.Cursor.{bytes_left}
use Rattle.py_lexer.specs.LogicalLines.{IsBody}
use Rattle.py_lexer.proofs.Rules.{LeadsOn}
use Rattle.py_lexer.proofs.strings.pass_body.Given as goal

abbrev pub invariant-body : goal.invariant-body
invariant-body l = record { so_far : LeadsOn (IsBody l.quote l.start) l.fn.text l.text; no_longer : bytes_left l.text ≤ bytes_left l.fn.text; forward : l.fn.text.at ≤ l.text.at; same_text : l.text.text ≡ l.fn.text.text }

abbrev pub decreases-body : goal.decreases-body
decreases-body l = bytes_left l.text
