-- Statements come to what the points that can be reached allow.
use Rattle.std.specs.Prelude.{◌≡◌, ℕ, Bool, true, List}
use Rattle.py_tree.specs.PlainStatements.{PlainStmts}
use Rattle.py_tree.specs.Reachability.{all_go_on, break_in}
use Rattle.program_meaning.specs.declared.vars.Var.{Var}
use Rattle.program_meaning.specs.World.{Ends, Goes, Returns, Breaks, Continues, Fails}
use Rattle.program_meaning.specs.Evaluation.{Site}
use Rattle.program_meaning.specs.Execution.{act_all}

-- statements go on only where they may, and leave a loop only where they may
abbrev pub IsReached : {W : Type 0} → Bool → Bool → Ends W → Type 0
IsReached go leave (Goes vars w n) = go ≡ true
IsReached go leave (Returns v w n) = Unit {0}
IsReached go leave (Breaks vars w n) = leave ≡ true
IsReached go leave (Continues vars w n) = Unit {0}
IsReached go leave (Fails f vars w n) = Unit {0}

-- a point that can't be reached never is, in any program
abbrev pub PointsAreReached : Type 0 → Type 0
PointsAreReached W = (s : Site W) (xs : PlainStmts) (vars : List Var) (w : W) (n : ℕ) → IsReached (all_go_on xs) (break_in xs) (act_all s xs vars w n)
