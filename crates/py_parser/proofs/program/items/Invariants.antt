use Rattle.py_tree.specs.PlainProgram.{plain_classes}
use Rattle.py_tree.specs.Reading.{lines_left}
use Rattle.py_tree.specs.Grammar.{IsItems}
use Rattle.py_parser.proofs.Loops.{GoesOn}
use Rattle.py_parser.proofs.program.items.Given as goal

abbrev pub invariant-items : goal.invariant-items
invariant-items l = GoesOn IsItems l.fn.reader l.reader (plain_classes l.items)

abbrev pub decreases-items : goal.decreases-items
decreases-items l = lines_left l.reader
