use Rattle.std.proofs.Common.{◌≡◌, ◌≤◌, ◌+◌, ◌*◌}
use Rattle.py_tree.specs.PlainExpressions.{PlainExpr, plain_expr, plain_exprs, plain_links}
use Rattle.py_tree.specs.Reading.{Outcome, left, lines_left}
use Rattle.py_tree.specs.ExpressionGrammar.{IsOrs, IsAnds, IsSums, IsTerms, IsMore, IsTails}
use Rattle.py_parser.proofs.Loops.{GoesOn}
use Rattle.py_parser.proofs.expressions.+expr.Given as goal

abbrev pub decreases-enclosed : goal.decreases-enclosed
decreases-enclosed l = 20 * l.levels + 0

abbrev pub decreases-group : goal.decreases-group
decreases-group l = 20 * l.levels + 1

abbrev pub decreases-named : goal.decreases-named
decreases-named l = 20 * l.levels + 2

abbrev pub decreases-atom : goal.decreases-atom
decreases-atom l = 20 * l.levels + 3

abbrev pub decreases-tails : goal.decreases-tails
decreases-tails l = 20 * l.levels + 4

abbrev pub decreases-postfix : goal.decreases-postfix
decreases-postfix l = 20 * l.levels + 5

abbrev pub decreases-unary : goal.decreases-unary
decreases-unary l = 20 * l.levels + 6

abbrev pub decreases-terms : goal.decreases-terms
decreases-terms l = 20 * l.levels + 7

abbrev pub decreases-term : goal.decreases-term
decreases-term l = 20 * l.levels + 8

abbrev pub decreases-sums : goal.decreases-sums
decreases-sums l = 20 * l.levels + 9

abbrev pub decreases-sum : goal.decreases-sum
decreases-sum l = 20 * l.levels + 10

abbrev pub decreases-compare : goal.decreases-compare
decreases-compare l = 20 * l.levels + 11

abbrev pub decreases-not : goal.decreases-not
decreases-not l = 20 * l.levels + 12

abbrev pub decreases-ands : goal.decreases-ands
decreases-ands l = 20 * l.levels + 13

abbrev pub decreases-and : goal.decreases-and
decreases-and l = 20 * l.levels + 14

abbrev pub decreases-ors : goal.decreases-ors
decreases-ors l = 20 * l.levels + 15

abbrev pub decreases-or : goal.decreases-or
decreases-or l = 20 * l.levels + 16

abbrev pub decreases-expr : goal.decreases-expr
decreases-expr l = 20 * l.levels + 17

abbrev pub decreases-more_args : goal.decreases-more_args
decreases-more_args l = 20 * l.levels + 18

abbrev pub decreases-args : goal.decreases-args
decreases-args l = 20 * l.levels + 19

abbrev pub invariant-ors-ors : goal.invariant-ors-ors
invariant-ors-ors l = record {
  so_far : GoesOn (IsOrs l.levels) l.fn.reader l.reader (plain_exprs l.items);
  no_longer : left l.reader ≤ left l.fn.reader;
  same_lines : lines_left l.reader ≡ lines_left l.fn.reader;
}

abbrev pub decreases-ors-ors : goal.decreases-ors-ors
decreases-ors-ors l = left l.reader

abbrev pub invariant-ands-ands : goal.invariant-ands-ands
invariant-ands-ands l = record {
  so_far : GoesOn (IsAnds l.levels) l.fn.reader l.reader (plain_exprs l.items);
  no_longer : left l.reader ≤ left l.fn.reader;
  same_lines : lines_left l.reader ≡ lines_left l.fn.reader;
}

abbrev pub decreases-ands-ands : goal.decreases-ands-ands
decreases-ands-ands l = left l.reader

abbrev pub invariant-sums-sums : goal.invariant-sums-sums
invariant-sums-sums l = record {
  so_far : GoesOn (IsSums l.levels) l.fn.reader l.reader (plain_links l.items);
  no_longer : left l.reader ≤ left l.fn.reader;
  same_lines : lines_left l.reader ≡ lines_left l.fn.reader;
}

abbrev pub decreases-sums-sums : goal.decreases-sums-sums
decreases-sums-sums l = left l.reader

abbrev pub invariant-terms-terms : goal.invariant-terms-terms
invariant-terms-terms l = record {
  so_far : GoesOn (IsTerms l.levels) l.fn.reader l.reader (plain_links l.items);
  no_longer : left l.reader ≤ left l.fn.reader;
  same_lines : lines_left l.reader ≡ lines_left l.fn.reader;
}

abbrev pub decreases-terms-terms : goal.decreases-terms-terms
decreases-terms-terms l = left l.reader

abbrev pub invariant-more_args-more_args : goal.invariant-more_args-more_args
invariant-more_args-more_args l = record {
  so_far : GoesOn (IsMore l.levels) l.fn.reader l.reader (plain_exprs l.items);
  no_longer : left l.reader ≤ left l.fn.reader;
  same_lines : lines_left l.reader ≡ lines_left l.fn.reader;
}

abbrev pub decreases-more_args-more_args : goal.decreases-more_args-more_args
decreases-more_args-more_args l = left l.reader

abbrev pub invariant-tails-tails : goal.invariant-tails-tails
invariant-tails-tails l = record {
  so_far : (o : Outcome PlainExpr) → IsTails l.levels l.place (plain_expr l.whole) l.reader o → IsTails l.fn.levels l.fn.place (plain_expr l.fn.first) l.fn.reader o;
  no_longer : left l.reader ≤ left l.fn.reader;
  same_lines : lines_left l.reader ≡ lines_left l.fn.reader;
  levels : l.levels ≤ l.fn.levels;
}

abbrev pub decreases-tails-tails : goal.decreases-tails-tails
decreases-tails-tails l = left l.reader
