-- What is kept of a line when bytes join it, and where a piece's first line end is.
use Rattle.std.proofs.Common.{◌≡◌, ◌≤◌, ◌<◌, ◌≢◌, ℕ, ◌+◌, ◌-◌, min, nat_le, Bool, true, false, nat_eq, List, [], ◌∷◌, ◌++◌, length, take, drop, get_or, add-one, refl, sym, ap, ◌∙◌, subst, append-nil, append_assoc, arith}
use Rattle.std.proofs.lemmas.List.{get_or-take, take_all, take_min, length-take, take-append-le, take-append-drop}
use Rattle.std.proofs.lemmas.List.Elements.{All-from_get_or}
use Rattle.std.proofs.Math.Seq.{take-append-add, drop-cons}
use Rattle.std.proofs.lemmas.Bool.Decides.{nat_tests}
use Rattle.input_lines.specs.Reads.{IsStart}
use Rattle.input_lines.specs.CutLaws.{HasNoEnd}

-- the first m of a part, and as many of the bytes behind it as are wanting, are the first m of both
pub joined_start : (m : ℕ) (kept part bytes : List ℕ) → kept ≡ take m part → kept ++ take (m - length kept) bytes ≡ take m (part ++ bytes)
joined_start m kept part bytes h = by (nat_le (length part) m) refl
  where
    by : (b : Bool) → nat_le (length part) m ≡ b → kept ++ take (m - length kept) bytes ≡ take m (part ++ bytes)
    by true le =
        let short : length part ≤ m = grind (arith, nat_tests) in
        let whole : kept ≡ part = h ∙ take_all m part short in
        let sum : length part + (m - length part) ≡ m = omega arith in
        ap (λ k. k ++ take (m - length k) bytes) whole ∙ sym (take-append-add part bytes (m - length part)) ∙ ap (λ n. take n (part ++ bytes)) sum
    by false gt =
        let long : m < length part = grind (arith, nat_tests) in
        let none : m - length kept ≡ 0 = omega (arith, ap length h, length-take m part) in
        ap (λ n. kept ++ take n bytes) none ∙ append-nil kept ∙ h ∙ sym (take-append-le m part bytes (omega arith))

-- the same of what is kept of a line
pub kept_joined : (longest : ℕ) (kept part bytes : List ℕ) (count : ℕ) → count ≡ min (longest + 1 - length kept) (length bytes)
    → IsStart longest kept part → IsStart longest (kept ++ take count bytes) (part ++ bytes)
kept_joined longest kept part bytes count is h =
    ap (λ n. kept ++ take n bytes) is
    ∙ ap (λ l. kept ++ l) (take_min (longest + 1 - length kept) bytes)
    ∙ joined_start (longest + 1) kept part bytes h

-- where no place below n has an LF, the first n bytes have none
pub none_before : (n : ℕ) (bytes : List ℕ) → n ≤ length bytes → ((k : ℕ) → 0 ≤ k → k < n → nat_eq (get_or bytes k 0) 10 ≡ true → ⊥)
    → HasNoEnd (take n bytes)
none_before n bytes le none = All-from_get_or (λ byte. byte ≢ 10) (take n bytes) 0 (λ i lt.
    let below : i < n = omega (arith, length-take n bytes) in
    λ is. none i (omega arith) below (ap (λ b. nat_eq b 10) (sym (get_or-take n bytes i 0 below) ∙ is)))

-- where no place has one, the bytes have none
pub none_at_all : (bytes : List ℕ) → ((k : ℕ) → 0 ≤ k → k < length bytes → nat_eq (get_or bytes k 0) 10 ≡ true → ⊥) → HasNoEnd bytes
none_at_all bytes none = subst HasNoEnd (take_all (length bytes) bytes (omega arith)) (none_before (length bytes) bytes (omega arith) none)

-- bytes are what stands before an LF and the LF, and then what stands behind it
pub split_at : (end : ℕ) (bytes : List ℕ) → end < length bytes → nat_eq (get_or bytes end 0) 10 ≡ true
    → bytes ≡ (take end bytes ++ 10 ∷ []) ++ drop (end + 1) bytes
split_at end bytes lt is =
    let lf : get_or bytes end 0 ≡ 10 = grind (arith, nat_tests) in
    let behind : drop end bytes ≡ 10 ∷ drop (end + 1) bytes = rw (add-one, ← lf) (drop-cons bytes end 0 lt) in
    sym (take-append-drop end bytes) ∙ ap (λ l. take end bytes ++ l) behind ∙ sym (append_assoc (take end bytes) (10 ∷ []) (drop (end + 1) bytes))
