-- What small pieces of flat code with a `try` do.
use Rattle.std.proofs.Common.{◌≡◌, ℕ, suc, true, None, Some, List, [], ◌∷◌, refl}
use Rattle.py_tree.specs.declared.names.Place.{Place}
use Rattle.py_tree.specs.PlainExpressions.{PBool}
use Rattle.sf_value.specs.declared.value.Value.TheVariants as value
use Rattle.program_meaning.specs.declared.vars.Var.{Var}
use Rattle.program_meaning.specs.World.{Goes, Returns, Fails, failure, assigned}
use Rattle.program_meaning.specs.Evaluation.{Site, eval}
use Rattle.program_meaning.specs.Execution.{message}
use Rattle.flat_tree.specs.PlainFlat.{Point, FMark, FSet, FFail, FBreak, FWhile, FTry, PlainFlatStmts, FNoStmt, FStmt, FLeaf, PlainFlatClauses, FClause, FNoClause, FMoreClauses}
use Rattle.flat_tree.specs.FlatMeaning.{loop_turns, run_stmt, run_stmts}

module _ {W : Type 0} (s : Site W) (at : Place) (p : Point) (xs ys : PlainFlatStmts) (vars : List Var) (w : W) where
  -- `except` with these kinds, as the last clause or before others
  abbrev last : List ℕ → PlainFlatStmts → PlainFlatClauses
  last kinds body = FMoreClauses (FClause kinds p body) FNoClause

  abbrev first : List ℕ → PlainFlatStmts → PlainFlatClauses → PlainFlatClauses
  first kinds body more = FMoreClauses (FClause kinds p body) more

  abbrev failing : ℕ → PlainFlatStmts
  failing kind = FStmt (FFail kind None) FNoStmt

  -- a body assigns and then fails: the second clause names the failure, and what was assigned stays
  second_takes : (n : ℕ)
      → run_stmt s (FTry p (FStmt (FSet 7 (PBool at true)) (failing 2)) (first (1 ∷ []) ys (last (2 ∷ 3 ∷ []) xs)) (Some p)) vars w n ≡ run_stmts s xs (assigned vars 7 (value.Bool true)) w n
  unfolding run_stmt message eval
  second_takes n = refl

  -- where two clauses name it, the first runs
  first_takes : (n : ℕ) → run_stmt s (FTry p (failing 2) (first (2 ∷ []) xs (last (2 ∷ []) ys)) (Some p)) vars w n ≡ run_stmts s xs vars w n
  unfolding run_stmt message
  first_takes n = refl

  -- a failure that nobody names goes on, and the step before it is gone
  nobody_takes : (n : ℕ) → run_stmt s (FTry p (FStmt FMark (failing 2)) (last (4 ∷ 8 ∷ []) xs) (Some p)) vars w (suc n) ≡ Fails (failure 2) vars w n
  unfolding run_stmt message
  nobody_takes n = refl

  -- a clause that fails itself fails the `try` around: the other clauses beside it don't count
  outer_takes : (n : ℕ)
      → run_stmt s (FTry p (FStmt (FTry p (failing 2) (first (2 ∷ []) (failing 3) (last (3 ∷ []) ys)) (Some p)) FNoStmt) (last (2 ∷ 3 ∷ []) xs) (Some p)) vars w n ≡ run_stmts s xs vars w n
  unfolding run_stmt message
  outer_takes n = refl

  -- a clause leaves the loop around its `try`, whose turn took its step
  leaves_the_loop : (n : ℕ)
      → run_stmt s (FWhile p (FLeaf FNoStmt (PBool at true)) p (FStmt (FTry p (failing 2) (last (2 ∷ []) (FStmt FBreak FNoStmt)) None) FNoStmt) (Some p)) vars w (suc n) ≡ Goes vars w n
  unfolding run_stmt message eval loop_turns
  leaves_the_loop n = refl

  -- with no point behind a `try`, its end is the method's
  ends_the_method : (n : ℕ) → run_stmt s (FTry p FNoStmt (last (2 ∷ []) xs) None) vars w n ≡ Returns value.Nil w n
  unfolding run_stmt
  ends_the_method n = refl
