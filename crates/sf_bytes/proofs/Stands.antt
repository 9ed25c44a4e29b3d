-- Bytes that stand in a file at a place.
use Rattle.std.proofs.Common.{◌≡◌, ℕ, ◌+◌, ◌≤◌, ◌<◌, List, [], ◌∷◌, ◌++◌, length, get_or, take, drop, refl, sym, ap, ◌∙◌, arith, length-append, length-drop}
use Rattle.std.proofs.Math.Seq.{take-add}
use Rattle.std.proofs.lemmas.List.{drop-take, take-take, drop-drop, drop_more, length-take, take_at, drop_at}
use Rattle.sf_bytes.specs.Gates.{StandsAt, ClosedAt}

-- the file reaches to their end
pub Stands-length : (file : List ℕ) (at : ℕ) (bytes : List ℕ) → StandsAt file at bytes → 0 < length bytes → at + length bytes ≤ length file
Stands-length file at bytes stands some = omega (arith, ap length stands, length-take (length bytes) (drop at file), length-drop at file, some)

-- a shorter front that two files share
pub front-shorter : (a b : List ℕ) (m n : ℕ) → take m b ≡ take m a → n ≤ m → take n b ≡ take n a
front-shorter a b m n front within = sym (take-take n m b within) ∙ ap (take n) front ∙ take-take n m a within

-- a file with the same front has them too
pub Stands-same : (a b : List ℕ) (m at : ℕ) (bytes : List ℕ) → take m b ≡ take m a → at + length bytes ≤ m → StandsAt a at bytes → StandsAt b at bytes
Stands-same a b m at bytes front within stands =
    let n = length bytes in
    sym (drop-take at n b) ∙ ap (drop at) (front-shorter a b m (at + n) front within) ∙ drop-take at n a ∙ stands

pub Stands-front : (file : List ℕ) (at : ℕ) (first rest : List ℕ) → StandsAt file at (first ++ rest) → StandsAt file at first
Stands-front file at first rest stands =
    sym (take-take (length first) (length (first ++ rest)) (drop at file) (omega (arith, length-append first rest))) ∙ ap (take (length first)) stands ∙ take_at first rest (length first) refl

pub Stands-behind : (file : List ℕ) (at : ℕ) (first rest : List ℕ) → StandsAt file at (first ++ rest) → StandsAt file (at + length first) rest
Stands-behind file at first rest stands =
    let n = length first in
    ap (take (length rest)) (sym (drop-drop n at file)) ∙ sym (drop-take n (length rest) (drop at file)) ∙ ap (λ k. drop n (take k (drop at file))) (sym (length-append first rest)) ∙ ap (drop n) stands ∙ drop_at first rest n refl

pub Stands-both : (file : List ℕ) (at : ℕ) (first rest : List ℕ) → StandsAt file at first → StandsAt file (at + length first) rest → StandsAt file at (first ++ rest)
Stands-both file at first rest here behind =
    let n = length first in
    let later : take (length rest) (drop n (drop at file)) ≡ rest = ap (take (length rest)) (drop-drop n at file) ∙ behind in
    ap (λ k. take k (drop at file)) (length-append first rest) ∙ take-add n (length rest) (drop at file) ∙ (λ i. here i ++ later i)

-- each byte of a file stands there
pub Stands-byte : (file : List ℕ) (at : ℕ) → at < length file → StandsAt file at (get_or file at 0 ∷ [])
Stands-byte file at within = ap (take 1) (drop_more file at 0 within)

-- and so to a gate that is in it
pub Closed-length : (file : List ℕ) (at : ℕ) → ClosedAt file at → at + 1 ≤ length file
Closed-length file at closed = Stands-length file at (closed.0 ∷ []) closed.2 (omega arith)
