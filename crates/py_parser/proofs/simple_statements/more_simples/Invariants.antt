use Rattle.std.proofs.Common.{◌≡◌}
use Rattle.py_tree.specs.PlainStatements.{plain_stmts}
use Rattle.py_tree.specs.Reading.{left, lines_left}
use Rattle.py_tree.specs.StatementGrammar.{IsMoreSimples}
use Rattle.py_parser.proofs.Loops.{GoesOn}
use Rattle.py_parser.proofs.simple_statements.more_simples.Given as goal

abbrev pub invariant-more_simples : goal.invariant-more_simples
invariant-more_simples l = record {
  so_far : GoesOn (IsMoreSimples l.levels) l.fn.reader l.reader (plain_stmts l.items);
  same_lines : lines_left l.reader ≡ lines_left l.fn.reader;
}

abbrev pub decreases-more_simples : goal.decreases-more_simples
decreases-more_simples l = left l.reader
