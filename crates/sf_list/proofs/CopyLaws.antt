-- Laws of copies of lists.
use Rattle.std.proofs.Common.{◌≡◌, ℕ, ◌+◌, ◌<◌, List, [], ◌∷◌, ◌++◌, length, map, take, get_or, refl, sym, ap, ◌∙◌, subst}
use Rattle.std.proofs.lemmas.List.{take_more}
use Rattle.sf_list.specs.Copies.{AreCopies}

-- one more copy at the end
pub AreCopies-push : {T : Type 0} (R : T → T → Type 0) (xs ys : List T) (x y : T) → AreCopies R xs ys → R x y → AreCopies R (xs ++ x ∷ []) (ys ++ y ∷ [])
AreCopies-push R [] [] x y h k = (k, tt)
AreCopies-push R [] (z ∷ ys) x y h k = absurd h
AreCopies-push R (w ∷ xs) [] x y h k = absurd h
AreCopies-push R (w ∷ xs) (z ∷ ys) x y h k = (h.0, AreCopies-push R xs ys x y h.1 k)

-- one more copy in a walk over a list
pub AreCopies-step : {T : Type 0} (R : T → T → Type 0) (all made more : List T) (i : ℕ) (x y : T) → AreCopies R (take i all) made → i < length all → x ≡ get_or all i x → R x y → more ≡ made ++ y ∷ [] → AreCopies R (take (i + 1) all) more
AreCopies-step R all made more i x y h lt is k e =
    let front : take (i + 1) all ≡ take i all ++ x ∷ [] = take_more all i x lt ∙ ap (λ z. take i all ++ z ∷ []) (sym is) in
    subst (λ zs. AreCopies R zs more) (sym front) (subst (AreCopies R (take i all ++ x ∷ [])) (sym e) (AreCopies-push R (take i all) made x y h k))

-- copies that a view can't tell from their originals give lists that it can't tell apart
pub map-AreCopies : {T A : Type 0} (R : T → T → Type 0) (view : T → A) → ((x y : T) → R x y → view y ≡ view x) → (xs ys : List T) → AreCopies R xs ys → map view ys ≡ map view xs
map-AreCopies R view same [] [] h = refl
map-AreCopies R view same [] (y ∷ ys) h = absurd h
map-AreCopies R view same (x ∷ xs) [] h = absurd h
map-AreCopies R view same (x ∷ xs) (y ∷ ys) h = λ i. same x y h.0 i ∷ map-AreCopies R view same xs ys h.1 i

-- copies that are equal to their originals give equal lists
pub same-AreCopies : {T : Type 0} (R : T → T → Type 0) → ((x y : T) → R x y → y ≡ x) → (xs ys : List T) → AreCopies R xs ys → ys ≡ xs
same-AreCopies R same [] [] h = refl
same-AreCopies R same [] (y ∷ ys) h = absurd h
same-AreCopies R same (x ∷ xs) [] h = absurd h
same-AreCopies R same (x ∷ xs) (y ∷ ys) h = λ i. same x y h.0 i ∷ same-AreCopies R same xs ys h.1 i

-- a copy of a list whose elements are copied as they stand is that list
pub equal_copies : {T : Type 0} (xs ys : List T) → AreCopies (λ old made. made ≡ old) xs ys → ys ≡ xs
equal_copies xs ys h = same-AreCopies (λ old made. made ≡ old) (λ x y e. e) xs ys h
