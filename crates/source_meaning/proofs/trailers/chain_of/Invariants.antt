use Rattle.std.proofs.Common.{◌<◌, map}
use Rattle.py_tree.specs.PlainExpressions.{plain_expr}
use Rattle.py_tree.specs.Bounded.{expr_size}
use Rattle.program_meaning.specs.Trailers.{EndsWith}
use Rattle.source_meaning.specs.TrailerViews.{plain_trailer}
use Rattle.source_meaning.proofs.trailers.chain_of.Given as goal

abbrev pub invariant-loop-on : goal.invariant-loop-on
invariant-loop-on l = record { chain : EndsWith (plain_expr l.expr) (map plain_trailer l.trailers.items) (plain_expr l.innermost); smaller : expr_size (plain_expr l.innermost) < expr_size (plain_expr l.expr) }

abbrev pub decreases-loop-on : goal.decreases-loop-on
decreases-loop-on l = expr_size (plain_expr l.innermost)
