-- What a write makes of a file, whole or torn.
use Rattle.std.proofs.Common.{◌≡◌, ℕ, ◌+◌, ◌-◌, ◌≤◌, ◌<◌, List, [], ◌∷◌, ◌++◌, length, take, drop, replicate, min, max, refl, sym, ap, ◌∙◌, subst, arith, inl, inr, add-zero, length-append, length-drop, append-nil, take-append-drop}
use Rattle.std.proofs.lemmas.Bool.{cases_lt}
use Rattle.std.proofs.lemmas.Bool.Decides.{nat_tests}
use Rattle.std.proofs.lemmas.List.{take-append-le, drop_at, take_all, take-take, length-take-le, length-replicate}
use Rattle.sf_outside.specs.DiskModel.{written, written_end, Torn}

-- the file up to the place, with zeros where it ends before
abbrev pub front : List ℕ → ℕ → List ℕ
front file at = take at (file ++ replicate (at - length file) 0)

pub length-front : (file : List ℕ) (at : ℕ) → length (front file at) ≡ at
length-front file at = length-take-le at (file ++ replicate (at - length file) 0) (omega (arith, length-append file (replicate (at - length file) 0), length-replicate {A = ℕ} (at - length file) 0))

front-same : (file : List ℕ) (at m : ℕ) → m ≤ at → m ≤ length file → take m (front file at) ≡ take m file
front-same file at m within there = take-take m at (file ++ replicate (at - length file) 0) within ∙ take-append-le m file (replicate (at - length file) 0) there

-- front, bytes and the rest behind them
whole-torn : (file : List ℕ) (at : ℕ) (bytes : List ℕ) → 0 < length bytes → Torn at (length bytes) file (front file at ++ bytes ++ drop (at + length bytes) file)
whole-torn file at bytes some =
    let rest = drop (at + length bytes) file in
    let m = min at (length file) in
    let long : length (front file at ++ bytes) ≡ at + length bytes = length-append (front file at) bytes ∙ ap (λ n. n + length bytes) (length-front file at) in
    let all : length (front file at ++ bytes ++ rest) ≡ at + length bytes + (length file - (at + length bytes)) = omega (arith, long, length-append (front file at ++ bytes) rest, length-drop (at + length bytes) file) in
    let ends : written_end at (length bytes) ≡ at + length bytes = grind (arith, nat_tests) in
    record {
      before = take-append-le m (front file at ++ bytes) rest (omega (arith, long)) ∙ take-append-le m (front file at) bytes (omega (arith, length-front file at)) ∙ front-same file at m (omega arith) (omega arith);
      after = drop_at (front file at ++ bytes) rest (at + length bytes) long;
      no_shorter = omega (arith, all);
      no_longer = omega (arith, all, ends);
    }

pub written-torn : (file : List ℕ) (at : ℕ) (bytes : List ℕ) → Torn at (length bytes) file (written file at bytes)
written-torn file at [] = record { before = refl; after = refl; no_shorter = omega arith; no_longer = omega arith }
written-torn file at (byte ∷ bytes) = whole-torn file at (byte ∷ bytes) (omega arith)

-- where the place is within the file
pub written-within : (file : List ℕ) (at : ℕ) (bytes : List ℕ) → at ≤ length file → written file at bytes ≡ take at file ++ bytes ++ drop (at + length bytes) file
written-within file at [] within = sym (ap (λ l. l ++ drop (at + 0) file) (append-nil (take at file)) ∙ ap (λ n. take at file ++ drop n file) (omega arith) ∙ take-append-drop at file)
written-within file at (byte ∷ bytes) within =
    ap (λ l. l ++ (byte ∷ bytes) ++ drop (at + length (byte ∷ bytes)) file) (take-append-le at file (replicate (at - length file) 0) within)

-- how long a file is then
pub length-written : (file : List ℕ) (at : ℕ) (bytes : List ℕ) → 0 < length bytes → length (written file at bytes) ≡ max (length file) (at + length bytes)
length-written file at [] some = absurd (omega (arith, some))
length-written file at (byte ∷ bytes) some =
    let bs = byte ∷ bytes in
    let rest = drop (at + length bs) file in
    omega (arith, length-append (front file at ++ bs) rest, length-append (front file at) bs, length-front file at, length-drop (at + length bs) file)

-- a torn write leaves what stands before its place
pub Torn-front : (at n : ℕ) (old new : List ℕ) → Torn at n old new → at ≤ length old → take at new ≡ take at old
Torn-front at n old new torn within =
    let least : min at (length old) ≡ at = omega (arith, within) in
    subst (λ k. take k new ≡ take k old) least torn.before

-- and the length of a file that it doesn't end past
pub Torn-length : (at n : ℕ) (old new : List ℕ) → Torn at n old new → at + n ≤ length old → length new ≡ length old
Torn-length at n old new torn within =
    let ends : written_end at n ≤ at + n = grind (arith, nat_tests) in
    omega (arith, torn.no_shorter, torn.no_longer, within, ends)

-- of no bytes it leaves the file
pub Torn-none : (at : ℕ) (old new : List ℕ) → Torn at 0 old new → new ≡ old
Torn-none at old new torn =
    let same : length new ≡ length old = omega (arith, torn.no_shorter, torn.no_longer) in
    elim (cases_lt at (length old)) [
      | inl within ↦ sym (take-append-drop at new) ∙ ap (λ l. l ++ drop at new) (Torn-front at 0 old new torn (omega (arith, within)))
          ∙ ap (λ l. take at old ++ l) (subst (λ k. drop k new ≡ drop k old) (add-zero at) torn.after) ∙ take-append-drop at old
      | inr past ↦
          let least : min at (length old) ≡ length old = omega (arith, past) in
          sym (take_all (length old) new (omega (arith, same))) ∙ subst (λ k. take k new ≡ take k old) least torn.before ∙ take_all (length old) old (omega arith)
    ]
