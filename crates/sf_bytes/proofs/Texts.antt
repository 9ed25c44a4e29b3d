-- Reading texts.
use Rattle.std.proofs.Common.{◌≡◌, ℕ, ◌≤◌, Bool, true, false, ltb, List as Items, length, take, drop, Some, None, refl, sym, subst}
use Rattle.std.specs.Str.{IsUtf8, is_utf8, chars}
use Rattle.std.proofs.lemmas.Bool.{le-ltb}
use Rattle.std.proofs.lemmas.Str.{IsUtf8-from_is_utf8, is_utf8-from_IsUtf8}
use Rattle.sf_bytes.specs.Reading.{number_at, text_at}

not_true : (b : Bool) → (b ≡ true → ⊥) → b ≡ false
not_true true h = absurd (h refl)
not_true false h = refl

-- the bytes after the count are UTF-8
pub text_is : (bytes : Items ℕ) (count : ℕ) (after front rest : Items ℕ) → number_at bytes ≡ Some (count, after) → count ≤ length after → front ≡ take count after → rest ≡ drop count after → IsUtf8 front → text_at bytes ≡ Some (chars front, rest)
unfolding text_at
text_is bytes count after front rest read fits is-front is-rest utf8 =
    let long : ltb (length after) count ≡ false = le-ltb _ _ fits in
    let good : is_utf8 (take count after) ≡ true = is_utf8-from_IsUtf8 _ (subst IsUtf8 is-front utf8) in
    rw (read, long, good, is-front, is-rest) refl

-- they are not
pub text_is_none : (bytes : Items ℕ) (count : ℕ) (after front : Items ℕ) → number_at bytes ≡ Some (count, after) → count ≤ length after → front ≡ take count after → (IsUtf8 front → ⊥) → text_at bytes ≡ None
unfolding text_at
text_is_none bytes count after front read fits is-front bad =
    let long : ltb (length after) count ≡ false = le-ltb _ _ fits in
    let wrong : is_utf8 (take count after) ≡ false = not_true _ (λ e. bad (subst IsUtf8 (sym is-front) (IsUtf8-from_is_utf8 _ e))) in
    rw (read, long, wrong) refl
