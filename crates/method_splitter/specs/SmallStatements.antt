-- Where a statement begins that makes no block, and how far statements are reached.
use Rattle.std.specs.Prelude.{ℕ, Bool, true, false, List, [], ◌∷◌, if◌then◌else◌}
use Rattle.py_tree.specs.PlainExpressions.{PlainExpr, PlainExprs}
use Rattle.py_tree.specs.Reachability.{goes_on}
use Rattle.block_code.specs.PlainBlocks.{IMark, ISet, IPut, IGive, IFail, ECall}
use Rattle.flat_tree.specs.declared.tree.Callee.{Callee}
use Rattle.flat_tree.specs.PlainFlat.{PlainFlatStmt, FMark, FSet, FPut, FGive, FFail, FCode, FBreak, FContinue, FCall, FMake, FIf, FWhile, FTry}
use Rattle.method_splitter.specs.Split.{Rest, Holds, Around, leave, front, coded, stops}

abbrev pub is_small : PlainFlatStmt → Bool
is_small (FCall on callee args into after) = false
is_small (FMake class args into after) = false
is_small (FIf arms other after) = false
is_small (FWhile head test start body after) = false
is_small (FTry start body clauses after) = false
is_small _ = true

-- the rest where a small statement begins that goes on at another
abbrev pub small : PlainFlatStmt → Around → Rest → Rest
small FMark a c = front IMark c
small (FSet x e) a c = front (ISet x e) c
small (FPut x e) a c = front (IPut x e) c
small (FGive e) a c = front (IGive e) leave
small (FFail kind e) a c = front (IFail kind e) leave
small (FCode x) a c = coded (goes_on x) x c
small FBreak a c = a.breaks
small FContinue a c = a.continues
small _ a c = c

-- what ends with a call, behind which a block goes on
abbrev pub calling : PlainExpr → Callee → PlainExprs → (into after : ℕ) → Rest
calling on callee args into after = Holds [] (ECall on callee.class callee.method args into after) 0

-- the statements up to the first behind which nothing goes on
unfoldable pub reached_part : List PlainFlatStmt → List PlainFlatStmt
reached_part [] = []
reached_part (x ∷ xs) = if stops x then x ∷ [] else (x ∷ reached_part xs)
