use Rattle.std.proofs.Common.{◌≡◌, ◌≤◌}
use Rattle.py_lexer.specs.Cursor.{bytes_left}
use Rattle.py_lexer.specs.Spans.{Rise}
use Rattle.py_lexer.specs.Views.{plain_token}
use Rattle.py_lexer.proofs.LineRules.{TokensGoOn}
use Rattle.py_lexer.proofs.scan.tokens.Given as goal

abbrev pub invariant-tokens : goal.invariant-tokens
invariant-tokens l = record { so_far : TokensGoOn (plain_token l.fn.text.text) l.fn.text l.brackets.items l.text l.items; rises : Rise l.fn.text.text l.fn.text.at l.items l.text.at; no_longer : bytes_left l.text ≤ bytes_left l.fn.text; same_text : l.text.text ≡ l.fn.text.text }

abbrev pub decreases-tokens : goal.decreases-tokens
decreases-tokens l = bytes_left l.text
