-- The hash of bytes, one after another.
use Rattle.std.proofs.Common.{◌≡◌, ℕ, zero, suc, arith, ◌+◌, ◌*◌, ◌%◌, ◌^◌, ◌≤◌, ◌<◌, List, [], ◌∷◌, length, drop, get_or, refl, sym, ap, ◌∙◌}
use Rattle.std.proofs.Math.ListN.{drop_of_length-le}
use Rattle.operator_graph.specs.Routing.{hash_from, hash_of}

from_place : (xs : List ℕ) (i d : ℕ) → i < length xs → drop i xs ≡ get_or xs i d ∷ drop (i + 1) xs
from_place [] i d within = absurd (omega (arith, within))
from_place (x ∷ xs) zero d within = refl
from_place (x ∷ xs) (suc i) d within = let less : i < length xs = omega (arith, within) in let same : suc (i + 1) ≡ suc i + 1 = omega arith in from_place xs i d less ∙ ap (λ k. get_or xs i d ∷ drop k (x ∷ xs)) same

-- one byte more
pub byte_more : (bytes : List ℕ) (i hash : ℕ) → i < length bytes → hash_from hash (drop i bytes) ≡ hash_of bytes → hash_from ((hash * 31 + get_or bytes i 0) % 2 ^ 32) (drop (i + 1) bytes) ≡ hash_of bytes
unfolding hash_from
byte_more bytes i hash within so_far = sym (ap (hash_from hash) (from_place bytes i 0 within)) ∙ so_far

-- none is left
pub byte_none : (bytes : List ℕ) (i hash : ℕ) → length bytes ≤ i → hash_from hash (drop i bytes) ≡ hash
unfolding hash_from
byte_none bytes i hash past = ap (hash_from hash) (drop_of_length-le bytes past)
