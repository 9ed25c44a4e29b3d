-- The front of two lists one after the other.
use Rattle.std.proofs.Common.{◌≡◌, ℕ, zero, suc, ◌+◌, ◌-◌, ◌≤◌, List, [], ◌∷◌, ◌++◌, length, take, min, ap, ◌∙◌, arith}
use Rattle.std.proofs.lemmas.List.{take-append-le, take_min}

-- one that reaches into the second list
pub take_past : {A : Type 0} (first second : List A) (n : ℕ) → length first ≤ n → take n (first ++ second) ≡ first ++ take (n - length first) second
take_past [] second n past = ap (λ k. take k second) (omega arith)
take_past (x ∷ first) second zero past = absurd (omega (arith, past))
take_past (x ∷ first) second (suc n) past = ap (λ l. x ∷ l) (take_past first second n (omega (arith, past)) ∙ ap (λ k. first ++ take k second) (omega arith))

-- the first list and n elements of the second
pub take_into : {A : Type 0} (first second : List A) (n : ℕ) → take (length first + n) (first ++ second) ≡ first ++ take n second
take_into first second n = take_past first second (length first + n) (omega arith) ∙ ap (λ k. first ++ take k second) (omega arith)

-- n elements of the first list, or all that it has
pub take_first : {A : Type 0} (first second : List A) (n : ℕ) → take (min n (length first)) (first ++ second) ≡ take n first
take_first first second n = take-append-le (min n (length first)) first second (omega arith) ∙ take_min n first
