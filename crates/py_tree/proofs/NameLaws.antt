-- Laws of tables of names.
use Rattle.std.proofs.Common.{◌≡◌, ◌<◌, ◌+◌, ℕ, zero, suc, Bool, true, false, cond, Option, Some, None, List, [], ◌∷◌, ◌++◌, ◌⊎◌, inl, inr, length, map, refl, sym, ap, ◌∙◌, subst, arith, length-append, nat_lt}
use Rattle.std.specs.Prelude.{not, ◌||◌, is_some, option_map, slice_get, position, bytes_eq, string_bytes, string_eq, String}
use Rattle.std.specs.Str.{is_utf8}
use Rattle.std.specs.List.{prefix_len, list_any}
use Rattle.std.proofs.lemmas.Option.{same_Some}
use Rattle.std.proofs.lemmas.List.{map-append}
use Rattle.std.proofs.lemmas.Bool.Decides.{nat_tests}
use Rattle.std.proofs.lemmas.Slice.Eq.{bytes_eq-Decides}
use Rattle.indexmap.specs.IndexSet.{insert_key}
use Rattle.py_tree.specs.NameTable.{place_of, with_name, IsTable}

counted : (b : Bool) (n m : ℕ) → cond (nat_lt (cond (not b) (1 + n) 0) (suc m)) (Some (cond (not b) (1 + n) 0)) None ≡ cond b (Some 0) (option_map (λ i. i + 1) (cond (nat_lt n m) (Some n) None))
counted true n m = grind (arith, nat_tests)
counted false n m = grind (arith, nat_tests)

-- the first place at which p passes, one element at a time
position-cons : {X : Type 0} (p : X → Bool) (x : X) (xs : List X) → position p (x ∷ xs) ≡ cond (p x) (Some 0) (option_map (λ i. i + 1) (position p xs))
position-cons p x xs = counted (p x) (prefix_len (λ z. not (p z)) xs) (length xs)

pub position-map : {X Y : Type 0} (p : Y → Bool) (f : X → Y) (xs : List X) → position p (map f xs) ≡ position (λ x. p (f x)) xs
position-map p f [] = refl
position-map p f (x ∷ xs) = position-cons p (f x) (map f xs) ∙ ap (λ o. cond (p (f x)) (Some 0) (option_map (λ i. i + 1) o)) (position-map p f xs) ∙ sym (position-cons (λ z. p (f z)) x xs)

-- a place, counted from one element earlier
abbrev after : Bool → Option ℕ → Option ℕ
after b o = cond b (Some 0) (option_map (λ i. i + 1) o)

after-any : (b c : Bool) (o : Option ℕ) → c ≡ is_some o → (b || c) ≡ is_some (after b o)
after-any true c o h = refl
after-any false c None h = h
after-any false c (Some i) h = h

pub list_any-position : {X : Type 0} (p : X → Bool) (xs : List X) → list_any p xs ≡ is_some (position p xs)
list_any-position p [] = refl
list_any-position p (x ∷ xs) = after-any (p x) (list_any p xs) (position p xs) (list_any-position p xs) ∙ ap is_some (sym (position-cons p x xs))

after-None : (b : Bool) (o : Option ℕ) → after b o ≡ None → (b ≡ false) × (o ≡ None)
after-None true o h = absurd (cc)
after-None false None h = (refl, refl)
after-None false (Some i) h = absurd (cc)

after-Some : (b : Bool) (o p : Option ℕ) (i : ℕ) → after b o ≡ Some i → ((j : ℕ) → o ≡ Some j → p ≡ Some j) → after b p ≡ Some i
after-Some true o p i h k = h
after-Some false None p i h k = absurd (cc)
after-Some false (Some j) p i h k = ap (option_map (λ i. i + 1)) (k j refl) ∙ h

-- a text at the end of a table that doesn't have it is found there
pub place-end : (names : List (List ℕ)) (text : List ℕ) → place_of names text ≡ None → place_of (names ++ text ∷ []) text ≡ Some (length names)
place-end [] text h = position-cons (bytes_eq text) text [] ∙ ap (λ b. after b None) ((bytes_eq-Decides text text).1 refl)
place-end (n ∷ names) text h =
    let p = after-None (bytes_eq text n) (place_of names text) (sym (position-cons (bytes_eq text) n names) ∙ h) in
    let e : after false (Some (length names)) ≡ Some (suc (length names)) = ap Some (omega arith) in
    position-cons (bytes_eq text) n (names ++ text ∷ []) ∙ ap (λ b. after b (place_of (names ++ text ∷ []) text)) p.0 ∙ ap (after false) (place-end names text p.1) ∙ e

-- a text that a table has keeps its place
pub place-kept : (names : List (List ℕ)) (new text : List ℕ) (i : ℕ) → place_of names text ≡ Some i → place_of (names ++ new ∷ []) text ≡ Some i
place-kept [] new text i h = absurd (cc)
place-kept (n ∷ names) new text i h =
    position-cons (bytes_eq text) n (names ++ new ∷ []) ∙ after-Some (bytes_eq text n) (place_of names text) (place_of (names ++ new ∷ []) text) i (sym (position-cons (bytes_eq text) n names) ∙ h) (λ j e. place-kept names new text j e)

-- what stands in a table with one more text at its end
stands : (names : List (List ℕ)) (new text : List ℕ) (i : ℕ) → slice_get (names ++ new ∷ []) i ≡ Some text → (slice_get names i ≡ Some text) ⊎ ((i ≡ length names) × (new ≡ text))
stands [] new text zero h = inr (refl, same_Some new text h)
stands [] new text (suc i) h = absurd (cc)
stands (n ∷ names) new text zero h = inl h
stands (n ∷ names) new text (suc i) h = elim (stands names new text i h) [ inl e ↦ inl e | inr e ↦ inr (ap suc e.0, e.1) ]

-- a table with a new text at its end is a table
pub IsTable-more : (names : List (List ℕ)) (text : List ℕ) → IsTable names → is_utf8 text ≡ true → place_of names text ≡ None → length names < 4294967295 → IsTable (names ++ text ∷ [])
IsTable-more names text t real new small = record {
  distinct = λ i other e. elim (stands names text other i e) [ inl k ↦ place-kept names text other i (t.distinct i other k) | inr k ↦ subst (λ n. place_of (names ++ text ∷ []) other ≡ Some n) (sym k.0) (subst (λ w. place_of (names ++ text ∷ []) w ≡ Some (length names)) k.1 (place-end names text new)) ];
  utf8 = λ i other e. elim (stands names text other i e) [ inl k ↦ t.utf8 i other k | inr k ↦ subst (λ t. is_utf8 t ≡ true) k.1 real ];
  few = omega (arith, length-append names (text ∷ []));
}

-- a new text stands at the end
pub with_name-new : (names : List (List ℕ)) (text : List ℕ) → place_of names text ≡ None → with_name names text ≡ names ++ text ∷ []
with_name-new names text new = ap (λ o. cond (is_some o) names (names ++ text ∷ [])) new

-- a text that a table has changes nothing
pub with_name-known : (names : List (List ℕ)) (text : List ℕ) (i : ℕ) → place_of names text ≡ Some i → with_name names text ≡ names
with_name-known names text i known = ap (λ o. cond (is_some o) names (names ++ text ∷ [])) known

-- a table that is given a text is a table
pub IsTable-with_name : (names : List (List ℕ)) (text : List ℕ) → IsTable names → is_utf8 text ≡ true → length names < 4294967295 → IsTable (with_name names text)
IsTable-with_name names text t real small =
    let by_place : (o : Option ℕ) → place_of names text ≡ o → IsTable (with_name names text) = λ o. elim o as (λ z. place_of names text ≡ z → IsTable (with_name names text)) [ None ↦ λ e. subst IsTable (sym (with_name-new names text e)) (IsTable-more names text t real e small) | Some i ↦ λ e. subst IsTable (sym (with_name-known names text i e)) t ] in
    by_place (place_of names text) refl

mapped : {X Y : Type 0} (f : X → Y) (b : Bool) (xs : List X) (x : X) → map f (cond b xs (xs ++ x ∷ [])) ≡ cond b (map f xs) (map f xs ++ f x ∷ [])
mapped f true xs x = refl
mapped f false xs x = map-append f xs (x ∷ [])

-- a set of texts that is given a text shows the table that is given it
pub keys-with_name : {A : Type 0} (keys : List (String A)) (key : String A) → map string_bytes (insert_key string_eq keys key) ≡ with_name (map string_bytes keys) (string_bytes key)
keys-with_name keys key =
    let known : list_any (string_eq key) keys ≡ is_some (place_of (map string_bytes keys) (string_bytes key)) = list_any-position (string_eq key) keys ∙ ap is_some (sym (position-map (bytes_eq (string_bytes key)) string_bytes keys)) in
    mapped string_bytes (list_any (string_eq key) keys) keys key ∙ ap (λ b. cond b (map string_bytes keys) (map string_bytes keys ++ string_bytes key ∷ [])) known

-- the same, for a key with this text and a set that shows this table
pub given-with_name : {A : Type 0} (keys more : List (String A)) (key : String A) (names : List (List ℕ)) (text : List ℕ) → more ≡ insert_key string_eq keys key → string_bytes key ≡ text → map string_bytes keys ≡ names → map string_bytes more ≡ with_name names text
given-with_name keys more key names text e k n = ap (map string_bytes) e ∙ keys-with_name keys key ∙ (λ i. with_name (n i) (k i))
