-- What stands in a file after one write, and after two, and where a read copied it from.
use Rattle.std.proofs.Common.{◌≡◌, ℕ, ◌+◌, ◌≤◌, List, [], ◌∷◌, ◌++◌, length, take, drop, refl, sym, ap, ◌∙◌, arith, add-zero, append-nil, append_assoc, length-append}
use Rattle.std.proofs.lemmas.List.{take_all, take-take, drop-drop, length-take-le, take-append-le, take_at, drop_at}
use Rattle.sf_outside.specs.Bytes.{CopiedAll}
use Rattle.sf_outside.specs.DiskModel.{written}
use Rattle.sf_outside.proofs.Writes.{front, length-front, written-within}

-- what was written stands there
pub written-stands : (file : List ℕ) (at : ℕ) (bytes : List ℕ) → take (length bytes) (drop at (written file at bytes)) ≡ bytes
written-stands file at [] = refl
written-stands file at (byte ∷ more) =
    let bytes = byte ∷ more in
    let rest = drop (at + length bytes) file in
    ap (λ f. take (length bytes) (drop at f)) (append_assoc (front file at) bytes rest)
    ∙ ap (take (length bytes)) (drop_at (front file at) (bytes ++ rest) at (length-front file at))
    ∙ take_at bytes rest (length bytes) refl

-- a second write behind the first
pub written-then : (file : List ℕ) (at : ℕ) (a b : List ℕ) → written (written file at a) (at + length a) b ≡ written file at (a ++ b)
written-then file at [] b = ap (λ k. written file k b) (add-zero at)
written-then file at (x ∷ xs) [] = ap (written file at) (sym (append-nil (x ∷ xs)))
written-then file at (x ∷ xs) (y ∷ ys) =
    let a = x ∷ xs in
    let b = y ∷ ys in
    let start = front file at in
    let p = at + length a in
    let rest = drop p file in
    let q = p + length b in
    let g = (start ++ a) ++ rest in
    let long : length (start ++ a) ≡ p = omega (arith, length-append start a, length-front file at) in
    let reaches : p ≤ length g = omega (arith, long, length-append (start ++ a) rest) in
    let behind : drop q g ≡ drop q file = sym (drop-drop (length b) p g) ∙ ap (drop (length b)) (drop_at (start ++ a) rest p long) ∙ drop-drop (length b) p file in
    written-within g p b reaches
    ∙ ap (λ l. (l ++ b) ++ drop q g) (take_at (start ++ a) rest p long)
    ∙ ap (λ l. ((start ++ a) ++ b) ++ l) behind
    ∙ ap (λ l. l ++ drop q file) (append_assoc start a b)
    ∙ ap (λ k. (start ++ (a ++ b)) ++ drop k file) (omega (arith, length-append a b))

-- and one of a byte before it
pub written-before : (file : List ℕ) (at byte : ℕ) (b : List ℕ) → at + 1 ≤ length file → written (written file (at + 1) b) at (byte ∷ []) ≡ written file at (byte ∷ b)
written-before file at byte b within =
    let front = take (at + 1) file in
    let rest = drop (at + 1 + length b) file in
    let g = front ++ (b ++ rest) in
    let long : length front ≡ at + 1 = length-take-le (at + 1) file within in
    let reaches : at ≤ length g = omega (arith, long, length-append front (b ++ rest)) in
    let before : take at g ≡ take at file = take-append-le at front (b ++ rest) (omega (arith, long)) ∙ take-take at (at + 1) file (omega arith) in
    ap (λ f. written f at (byte ∷ [])) (written-within file (at + 1) b within ∙ append_assoc front b rest)
    ∙ written-within g at (byte ∷ []) reaches
    ∙ ap (λ l. (l ++ byte ∷ []) ++ drop (at + 1) g) before
    ∙ ap (λ l. (take at file ++ byte ∷ []) ++ l) (drop_at front (b ++ rest) (at + 1) long)
    ∙ sym (append_assoc (take at file ++ byte ∷ []) b rest)
    ∙ ap (λ l. l ++ rest) (append_assoc (take at file) (byte ∷ []) b)
    ∙ ap (λ k. (take at file ++ byte ∷ b) ++ drop k file) (omega arith)
    ∙ sym (written-within file at (byte ∷ b) (omega (arith, within)))

-- a whole copy stands where it was read
pub copied-stands : (file : List ℕ) (at n : ℕ) (buf : List ℕ) → CopiedAll file at n buf → length buf ≤ n → take (length buf) (drop at file) ≡ buf
copied-stands file at n buf copied all =
    let same : n ≡ length buf = omega (arith, copied.count, all) in
    ap (λ k. take k (drop at file)) (sym same) ∙ sym copied.bytes ∙ take_all n buf all
