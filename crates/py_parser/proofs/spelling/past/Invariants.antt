use Rattle.std.proofs.Common.{◌≡◌, ◌≤◌, ◌+◌, take}
use Rattle.py_tree.specs.Reading.{past_bytes}
use Rattle.py_parser.proofs.spelling.past.Given as goal

abbrev pub invariant-bytes : goal.invariant-bytes
invariant-bytes l = record {
  past : l.behind ≡ past_bytes (take l.byte-index l.bytes) l.fn.place;
  line : l.behind.line ≤ l.fn.place.line + l.byte-index;
  col : l.behind.col ≤ l.fn.place.col + l.byte-index + 1;
}
