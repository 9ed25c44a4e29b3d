use Rattle.std.proofs.Common.{◌≡◌}
use Rattle.py_tree.specs.PlainProgram.{plain_params}
use Rattle.py_tree.specs.Reading.{left, lines_left}
use Rattle.py_tree.specs.Grammar.{IsParams}
use Rattle.py_parser.proofs.Loops.{GoesOn}
use Rattle.py_parser.proofs.classes.params.Given as goal

abbrev pub invariant-params : goal.invariant-params
invariant-params l = record {
  so_far : GoesOn (IsParams l.levels) l.fn.reader l.reader (plain_params l.items);
  same_lines : lines_left l.reader ≡ lines_left l.fn.reader;
}

abbrev pub decreases-params : goal.decreases-params
decreases-params l = left l.reader
