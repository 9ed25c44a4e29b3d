-- Small parts of programs by the meaning of the whole language, with what Python gives for them.
use Rattle.std.proofs.Common.{◌≡◌, ◌-◌, ◌^◌, pos, negsuc, true, false, [], ◌∷◌, Ok, Err, refl}
use Rattle.std.specs.Prelude.{codes}
use Rattle.py_tree.specs.declared.names.Place.{Place}
use Rattle.py_tree.specs.declared.expr.BinOp.TheVariants as op
use Rattle.py_tree.specs.declared.expr.Cmp.TheVariants as cmp
use Rattle.py_tree.specs.PlainExpressions.{PBool, PVar, PAnd, PExpr, PNoExpr}
use Rattle.py_tree.specs.PlainStatements.{PWhile, PBreak, PNoStmt, PStmt}
use Rattle.sf_value.specs.declared.value.Value.TheVariants as value
use Rattle.program_meaning.specs.World.{Got, Goes, Fails, assigned, index_error, overflow_error, zero_division_error, step_limit}
use Rattle.program_meaning.specs.Operations.{combined, element, holds, in_range}
use Rattle.program_meaning.specs.Evaluation.{Site, eval}
use Rattle.program_meaning.specs.Execution.{act, over_numbers, while_turns}

abbrev at : Place
at = record { line = 1; col = 1 }

-- -7 // 2 and -7 % 2, 7 // -2 and 7 % -2: the quotient is rounded down, and the rest has the sign of the divisor
below_zero : combined op.FloorDiv (value.Int (negsuc 6)) (value.Int (pos 2)) ≡ Ok (value.Int (negsuc 3))
unfolding combined in_range
below_zero = refl

rest_above : combined op.Mod (value.Int (negsuc 6)) (value.Int (pos 2)) ≡ Ok (value.Int (pos 1))
unfolding combined in_range
rest_above = refl

by_a_negative : combined op.FloorDiv (value.Int (pos 7)) (value.Int (negsuc 1)) ≡ Ok (value.Int (negsuc 3))
unfolding combined in_range
by_a_negative = refl

rest_below : combined op.Mod (value.Int (pos 7)) (value.Int (negsuc 1)) ≡ Ok (value.Int (negsuc 0))
unfolding combined in_range
rest_below = refl

by_zero : combined op.FloorDiv (value.Int (pos 1)) (value.Int (pos 0)) ≡ Err zero_division_error
unfolding combined
by_zero = refl

-- xs[-1] is the last element, and there is no xs[-3] of two
from_the_end : element (value.Int (pos 5) ∷ value.Nil ∷ []) (negsuc 0) ≡ Ok value.Nil
from_the_end = refl

before_the_front : element (value.Int (pos 5) ∷ value.Nil ∷ []) (negsuc 2) ≡ Err index_error
before_the_front = refl

-- "b" is above "ab"
later_text : holds cmp.Gt (value.Str (codes "b")) (value.Str (codes "ab")) ≡ true
unfolding holds
later_text = refl

-- `False and x` doesn't look at x
left_decides : {W : Type 0} (s : Site W) (w : W) → eval s (PAnd at (PExpr (PBool at false) (PExpr (PVar at 9) PNoExpr))) [] w 4 ≡ Got (value.Bool false) w 4
unfolding eval
left_decides s w = refl

-- `while True: pass` with nothing in it uses up the steps, and one with a `break` takes three
spins : {W : Type 0} (s : Site W) (w : W) → act s (PWhile at (PBool at true) PNoStmt) [] w 4 ≡ Fails step_limit [] w 0
unfolding act while_turns eval
spins s w = refl

breaks_off : {W : Type 0} (s : Site W) (w : W) → act s (PWhile at (PBool at true) (PStmt (PBreak at) PNoStmt)) [] w 9 ≡ Goes [] w 6
unfolding act while_turns eval
breaks_off s w = refl

-- a range that ends at the greatest int has its last turn, and would fail in a turn from there
last_turn : {W : Type 0} (w : W) → over_numbers 5 9 (λ vars w n. Goes [] w n) (pos 3) (pos 4) [] w 4 ≡ Goes [] w 3
unfolding over_numbers in_range
last_turn w = refl

past_the_ints : {W : Type 0} (w : W) → over_numbers 5 9 (λ vars w n. Goes [] w n) (pos (2 ^ 127 - 1)) (pos (2 ^ 127)) [] w 4 ≡ Fails overflow_error (assigned [] 9 (value.Int (pos (2 ^ 127 - 1)))) w 3
unfolding over_numbers in_range
past_the_ints w = refl
