use Rattle.std.proofs.Common.{◌≤◌}
use Rattle.py_tree.specs.PlainProgram.{plain_methods}
use Rattle.py_tree.specs.Reading.{lines_left}
use Rattle.py_tree.specs.Grammar.{IsMethods}
use Rattle.py_parser.proofs.Loops.{GoesOn}
use Rattle.py_parser.proofs.classes.methods.Given as goal

abbrev pub invariant-methods : goal.invariant-methods
invariant-methods l = record {
  so_far : GoesOn (IsMethods l.column) l.fn.reader l.reader (plain_methods l.items);
  no_more : lines_left l.reader ≤ lines_left l.fn.reader;
}

abbrev pub decreases-methods : goal.decreases-methods
decreases-methods l = lines_left l.reader
