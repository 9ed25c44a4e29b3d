use Rattle.std.proofs.Common.{◌≡◌, ◌≤◌, ◌-◌, ◌++◌, length, drop}
use Rattle.std.specs.Prelude.{IsUtf8}
use Rattle.py_tree.specs.StringText.{unescaped}
use Rattle.py_lexer.proofs.text.unescaped.Given as goal

abbrev pub invariant-bytes : goal.invariant-bytes
invariant-bytes l = record { so_far : l.text.items ++ unescaped 0 (drop l.at l.bytes) ≡ unescaped 0 l.bytes; utf8 : IsUtf8 (l.text.items ++ drop l.at l.bytes); within : l.at ≤ length l.bytes }

abbrev pub decreases-bytes : goal.decreases-bytes
decreases-bytes l = length l.bytes - l.at
