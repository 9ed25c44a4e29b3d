-- Signs stand in what they begin, and have bytes.
use Rattle.std.proofs.Common.{◌≡◌, ℕ, ◌<◌, ◌≤◌, Bool, true, false, List, [], length, drop, get_or, Some, refl, sym, ap, ◌∙◌, arith}
use Rattle.std.proofs.lemmas.List.{length-append}
use Rattle.std.specs.Prelude.{nat_eq, nat_lt, position}
use Rattle.std.specs.List.{starts_with, list_all}
use Rattle.std.proofs.lemmas.Bool.{ltb-true}
use Rattle.std.proofs.lemmas.Bool.Decides.{Decides-eqb}
use Rattle.std.proofs.lemmas.List.Quantifiers.{position-Some}
use Rattle.std.proofs.lemmas.List.Folds.{list_all_at}
use Rattle.std.proofs.lemmas.Slice.Eq.{starts_is}
use Rattle.py_tree.specs.Tokens.{signs}

-- a sign that the bytes begin with is no longer than they are
pub sign_fits : (bs : List ℕ) (n : ℕ) → position (starts_with nat_eq bs) signs ≡ Some n → length (get_or signs n []) ≤ length bs
sign_fits bs n e =
    let p = position-Some (starts_with nat_eq bs) signs n [] e in
    let s = starts_is Decides-eqb bs (get_or signs n []) true (sym p.1) in
    omega (arith, ap length (s.0 refl), length-append (get_or signs n []) (drop (length (get_or signs n [])) bs))

true_is_no_false : true ≡ false → ⊥
true_is_no_false e = cc

has_byte : List ℕ → Bool
has_byte s = nat_lt 0 (length s)

all_have_bytes : list_all has_byte signs ≡ true
unfolding has_byte
all_have_bytes = refl

-- and it has a byte
pub sign_is_some : (bs : List ℕ) (n : ℕ) → position (starts_with nat_eq bs) signs ≡ Some n → 0 < length (get_or signs n [])
unfolding has_byte
sign_is_some bs n e =
    let p = position-Some (starts_with nat_eq bs) signs n [] e in
    let by_test : (b : Bool) → has_byte (get_or signs n []) ≡ b → 0 < length (get_or signs n []) = λ b. elim b as (λ z. has_byte (get_or signs n []) ≡ z → 0 < length (get_or signs n [])) [ true ↦ λ t. ltb-true 0 (length (get_or signs n [])) t | false ↦ λ t. absurd (true_is_no_false (sym all_have_bytes ∙ list_all_at has_byte signs n [] p.0 t)) ] in
    by_test (has_byte (get_or signs n [])) refl
