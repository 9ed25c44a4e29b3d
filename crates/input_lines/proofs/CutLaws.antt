-- Laws of the cut into lines.
use Rattle.std.proofs.Common.{◌≡◌, ◌≢◌, ℕ, true, false, cond, nat_eq, List, [], ◌∷◌, ◌++◌, refl, sym, ap, ◌∙◌, append_assoc, append-nil, arith}
use Rattle.std.proofs.lemmas.List.Elements.{All-head, All-tail}
use Rattle.std.proofs.lemmas.Bool.Decides.{nat_tests}
use Rattle.request_json.specs.Actions.{Ended, whole_from, rest_from}
use Rattle.input_lines.specs.CutLaws.{HasNoEnd, LinesEndAtLineEnds, PiecesAreCutInTurn}

-- one byte

pub whole-lf : (part bs : List ℕ) → whole_from part (10 ∷ bs) ≡ Ended part ∷ whole_from [] bs
unfolding whole_from
whole-lf part bs = refl

pub rest-lf : (part bs : List ℕ) → rest_from part (10 ∷ bs) ≡ rest_from [] bs
unfolding rest_from
rest-lf part bs = refl

pub whole-byte : (part bs : List ℕ) (b : ℕ) → nat_eq b 10 ≡ false → whole_from part (b ∷ bs) ≡ whole_from (part ++ b ∷ []) bs
unfolding whole_from
whole-byte part bs b h = rw h refl

pub rest-byte : (part bs : List ℕ) (b : ℕ) → nat_eq b 10 ≡ false → rest_from part (b ∷ bs) ≡ rest_from (part ++ b ∷ []) bs
unfolding rest_from
rest-byte part bs b h = rw h refl

pub whole-nil : (part : List ℕ) → whole_from part [] ≡ []
unfolding whole_from
whole-nil part = refl

pub rest-nil : (part : List ℕ) → rest_from part [] ≡ part
unfolding rest_from
rest-nil part = refl

-- two pieces

pub whole-append : (xs ys part : List ℕ) → whole_from part (xs ++ ys) ≡ whole_from part xs ++ whole_from (rest_from part xs) ys
unfolding whole_from rest_from
whole-append [] ys part = refl
whole-append (x ∷ xs) ys part = elim (nat_eq x 10) as (λ v. cond v (Ended part ∷ whole_from [] (xs ++ ys)) (whole_from (part ++ x ∷ []) (xs ++ ys)) ≡ cond v (Ended part ∷ whole_from [] xs) (whole_from (part ++ x ∷ []) xs) ++ whole_from (cond v (rest_from [] xs) (rest_from (part ++ x ∷ []) xs)) ys) [
  | true ↦ ap (λ l. Ended part ∷ l) (whole-append xs ys [])
  | false ↦ whole-append xs ys (part ++ x ∷ [])
]

pub rest-append : (xs ys part : List ℕ) → rest_from part (xs ++ ys) ≡ rest_from (rest_from part xs) ys
unfolding rest_from
rest-append [] ys part = refl
rest-append (x ∷ xs) ys part = elim (nat_eq x 10) as (λ v. cond v (rest_from [] (xs ++ ys)) (rest_from (part ++ x ∷ []) (xs ++ ys)) ≡ rest_from (cond v (rest_from [] xs) (rest_from (part ++ x ∷ []) xs)) ys) [
  | true ↦ rest-append xs ys []
  | false ↦ rest-append xs ys (part ++ x ∷ [])
]

-- bytes without LF

first_is_none : (b : ℕ) (bs : List ℕ) → HasNoEnd (b ∷ bs) → nat_eq b 10 ≡ false
first_is_none b bs h = let other : b ≢ 10 = All-head (λ byte. byte ≢ 10) b bs h in grind (arith, nat_tests)

pub whole-none : (part bytes : List ℕ) → HasNoEnd bytes → whole_from part bytes ≡ []
whole-none part [] h = whole-nil part
whole-none part (b ∷ bs) h =
    let other : nat_eq b 10 ≡ false = first_is_none b bs h in
    whole-byte part bs b other ∙ whole-none (part ++ b ∷ []) bs (All-tail (λ byte. byte ≢ 10) b bs h)

pub rest-longer : (part bytes : List ℕ) → HasNoEnd bytes → rest_from part bytes ≡ part ++ bytes
rest-longer part [] h = rest-nil part ∙ sym (append-nil part)
rest-longer part (b ∷ bs) h =
    let other : nat_eq b 10 ≡ false = first_is_none b bs h in
    rest-byte part bs b other ∙ rest-longer (part ++ b ∷ []) bs (All-tail (λ byte. byte ≢ 10) b bs h) ∙ append_assoc part (b ∷ []) bs

-- bytes without LF, and then LF

pub whole-line : (part line more : List ℕ) → HasNoEnd line → whole_from part (line ++ 10 ∷ more) ≡ Ended (part ++ line) ∷ whole_from [] more
whole-line part line more h =
    whole-append line (10 ∷ more) part
    ∙ ap (λ l. l ++ whole_from (rest_from part line) (10 ∷ more)) (whole-none part line h)
    ∙ ap (λ p. whole_from p (10 ∷ more)) (rest-longer part line h)
    ∙ whole-lf (part ++ line) more

pub rest-line : (part line more : List ℕ) → HasNoEnd line → rest_from part (line ++ 10 ∷ more) ≡ rest_from [] more
rest-line part line more h = rest-append line (10 ∷ more) part ∙ rest-lf (rest_from part line) more

pub lines_end_at_line_ends : LinesEndAtLineEnds
lines_end_at_line_ends = record { whole = whole-line; rest = rest-line; none = whole-none; longer = rest-longer }

pub pieces_are_cut_in_turn : PiecesAreCutInTurn
pieces_are_cut_in_turn = record { whole = λ part first second. whole-append first second part; rest = λ part first second. rest-append first second part }
