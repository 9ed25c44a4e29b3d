-- The tokens behind the next one, by their places.
use Rattle.std.proofs.Common.{◌≡◌, ℕ, suc, List, [], ◌∷◌, refl}
use Rattle.std.specs.Prelude.{slice_index_or}
use Rattle.py_tree.specs.Tokens.{PlainToken}
use Rattle.py_tree.specs.Reading.{no_token, first_token, other_tokens}

one_further : (ts : List PlainToken) (n : ℕ) → slice_index_or (other_tokens ts) n no_token ≡ slice_index_or ts (suc n) no_token
one_further [] n = refl
one_further (t ∷ ts) n = refl

pub second : (ts : List PlainToken) → first_token (other_tokens ts) ≡ slice_index_or ts 1 no_token
second ts = one_further ts 0

pub third : (ts : List PlainToken) → first_token (other_tokens (other_tokens ts)) ≡ slice_index_or ts 2 no_token
third [] = refl
third (t ∷ ts) = one_further ts 0

pub fourth : (ts : List PlainToken) → first_token (other_tokens (other_tokens (other_tokens ts))) ≡ slice_index_or ts 3 no_token
fourth [] = refl
fourth (t ∷ ts) = third ts

pub ruleset ahead = (second, third, fourth)
