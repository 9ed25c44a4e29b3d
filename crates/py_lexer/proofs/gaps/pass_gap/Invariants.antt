use Rattle.std.proofs.Common.{◌≡◌, ◌≤◌}
use Rattle.py_lexer.specs.Cursor.{bytes_left}
use Rattle.py_lexer.specs.LogicalLines.{IsGap}
use Rattle.py_lexer.proofs.Rules.{LeadsOn}
use Rattle.py_lexer.proofs.gaps.pass_gap.Given as goal

abbrev pub invariant-gap : goal.invariant-gap
invariant-gap l = record { so_far : LeadsOn (IsGap l.depth) l.fn.text l.text; no_longer : bytes_left l.text ≤ bytes_left l.fn.text; forward : l.fn.text.at ≤ l.text.at; same_text : l.text.text ≡ l.fn.text.text }

abbrev pub decreases-gap : goal.decreases-gap
decreases-gap l = bytes_left l.text
