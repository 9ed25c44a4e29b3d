-- Runs of bytes that pass a test.
use Rattle.std.proofs.Common.{◌≡◌, ◌≤◌, ◌+◌, Bool, true, false, cond, List, [], ◌∷◌, length, take, length-take, ap, arith}
use Rattle.std.specs.Prelude.{take_while}
use Rattle.std.specs.List.{prefix_len}

prefix-within : {X : Type 0} (p : X → Bool) (xs : List X) → prefix_len p xs ≤ length xs
prefix-within p [] = omega arith
prefix-within p (x ∷ xs) = elim (p x) as (λ b. cond b (1 + prefix_len p xs) 0 ≤ length (x ∷ xs)) [ true ↦ omega (arith, prefix-within p xs) | false ↦ omega arith ]

-- its length, counted
pub run_len : {X : Type 0} (p : X → Bool) (xs : List X) → length (take_while p xs) ≡ prefix_len p xs
run_len p xs = omega (arith, length-take (prefix_len p xs) xs, prefix-within p xs)

-- a run is as many bytes as it is long
pub run_is : {X : Type 0} (p : X → Bool) (xs : List X) → take (length (take_while p xs)) xs ≡ take_while p xs
run_is p xs = ap (λ k. take k xs) (run_len p xs)
