-- Walks over lists, one element at a time.
use Rattle.std.proofs.Common.{◌≡◌, ℕ, ◌+◌, ◌<◌, List as Items, [], ◌∷◌, ◌++◌, length, take, get_or, sym, ap, subst, ◌∙◌, append_assoc}
use Rattle.std.specs.List.{flat_map, AllByRecursion}
use Rattle.std.proofs.lemmas.List.{take_more, append-nil}
use Rattle.std.proofs.lemmas.List.Elements.{All-from_recursion}
use Rattle.std.proofs.lemmas.Grind.{flat_map-append}

one_more : {A : Type 0} (all : Items A) (i : ℕ) (x : A) → i < length all → x ≡ get_or all i x → take (i + 1) all ≡ take i all ++ x ∷ []
one_more all i x lt is = take_more all i x lt ∙ ap (λ y. take i all ++ y ∷ []) (sym is)

-- the bytes of one element more
pub flat_step : {A : Type 0} (f : A → Items ℕ) (all : Items A) (i : ℕ) (x : A) → i < length all → x ≡ get_or all i x → flat_map f (take (i + 1) all) ≡ flat_map f (take i all) ++ f x
flat_step f all i x lt is = ap (λ xs. flat_map f xs) (one_more all i x lt is) ∙ flat_map-append f (take i all) (x ∷ []) ∙ ap (λ bytes. flat_map f (take i all) ++ bytes) (append-nil (f x))

-- what holds of each, and of one more
pub all_push : {A : Type 0} (P : A → Type 0) (xs : Items A) (x : A) → AllByRecursion P xs → P x → AllByRecursion P (xs ++ x ∷ [])
all_push P [] x h p = (p, tt)
all_push P (y ∷ ys) x h p = (h.0, all_push P ys x h.1 p)

-- what holds of one element more
pub all_step : {A : Type 0} (P : A → Type 0) (all : Items A) (i : ℕ) (x : A) → i < length all → x ≡ get_or all i x → AllByRecursion P (take i all) → P x → AllByRecursion P (take (i + 1) all)
all_step P all i x lt is h p = subst (AllByRecursion P) (sym (one_more all i x lt is)) (all_push P (take i all) x h p)

-- what holds of each element holds of the one at a place
pub all_at : {A : Type 0} (P : A → Type 0) (all : Items A) (i : ℕ) (x : A) → AllByRecursion P all → i < length all → x ≡ get_or all i x → P x
all_at P all i x h lt is = subst P (sym is) (All-from_recursion P all h i x lt)

-- bytes at the end of those of the elements before
pub bytes_step : {A : Type 0} (f : A → Items ℕ) (old count before after : Items ℕ) (all : Items A) (i : ℕ) (x : A) → i < length all → x ≡ get_or all i x → before ≡ old ++ (count ++ flat_map f (take i all)) → after ≡ before ++ f x → after ≡ old ++ (count ++ flat_map f (take (i + 1) all))
bytes_step f old count before after all i x lt is h e = rw (e, h, flat_step f all i x lt is) (simp append_assoc)

-- what asks nothing holds of each element
pub all_free : {A : Type 0} (all : Items A) → AllByRecursion (λ _. Unit {0}) all
all_free [] = tt
all_free (x ∷ xs) = (tt, all_free xs)
