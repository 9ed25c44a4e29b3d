-- When a flat method keeps the rules, and that its blocks then fit as a graph that fits its program asks it of the blocks of a method.
use Rattle.std.specs.Prelude.{◌≡◌, true, false, List, []}
use Rattle.std.specs.List.{All}
use Rattle.py_tree.specs.PlainTypes.{TNil}
use Rattle.py_tree.specs.ExpressionTypes.{assignable}
use Rattle.py_tree.specs.Flow.{Context, result_at}
use Rattle.call_graph.specs.SuspendingCode.{Leaving}
use Rattle.block_code.specs.PlainVars.{PlainVar}
use Rattle.block_code.specs.GraphFits.{Asked, each_once, BlockFits}
use Rattle.flat_tree.specs.PlainFlat.{PlainFlat, flat_stmts_of}
use Rattle.method_splitter.specs.Callees.{CalleesAreThere}
use Rattle.method_splitter.specs.Points.{PointsPassInAll}
use Rattle.method_splitter.specs.Split.{split_blocks}
use Rattle.flat_types.specs.FlatTypes.{is_point, Nowhere, Behind, stmts_fit}
use Rattle.flat_types.specs.DeadCode.{HaveNoDead}

-- where a method ends without a `return`, None is its result
abbrev pub EndsWithNone : Context → Asked
EndsWithNone c locals = assignable TNil (result_at c) ≡ true

-- a flat method in this context, outside all loops, with these variables
pub record FlatFits (c : Context) (leaves : Leaving) (variables : List PlainVar) (flat : PlainFlat) : Type 0 where
  pub outside : c.in_loop ≡ false
  pub once : each_once variables ≡ true
  pub types : Behind variables flat.params (stmts_fit c leaves variables [] Nowhere Nowhere (flat_stmts_of flat.body) (EndsWithNone c))
  pub reached : HaveNoDead (flat_stmts_of flat.body)
  pub params : is_point variables flat.params ≡ true
  pub points : PointsPassInAll (is_point variables) (flat_stmts_of flat.body)
  pub callees : CalleesAreThere c.tables (flat_stmts_of flat.body)

-- each block of a flat method that keeps the rules fits
abbrev pub BlocksFit : Type 0
BlocksFit =
    (c : Context) (leaves : Leaving) (variables : List PlainVar) (flat : PlainFlat) → FlatFits c leaves variables flat
    → All (BlockFits c leaves variables (split_blocks flat)) (split_blocks flat)
