use Rattle.std.proofs.Common.{◌≡◌}
use Rattle.py_tree.specs.Reading.{left, lines_left}
use Rattle.py_parser.proofs.BlockLoops.{NamesGoOn}
use Rattle.py_parser.proofs.program.more_names.Given as goal

abbrev pub invariant-more_names : goal.invariant-more_names
invariant-more_names l = record {
  so_far : NamesGoOn l.is_enclosed l.fn.reader l.reader;
  same_lines : lines_left l.reader ≡ lines_left l.fn.reader;
}

abbrev pub decreases-more_names : goal.decreases-more_names
decreases-more_names l = left l.reader
