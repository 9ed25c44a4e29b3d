-- Texts that are given at most once, and how a word looks.
use Rattle.std.proofs.Common.{◌≡◌, ℕ, ◌==◌, Bool, true, false, not, ◌&&◌, ◌||◌, List, [], ◌∷◌, ◌++◌, Option, Some, None, refl, sym, ap, ◌∙◌, subst, append_assoc, option_map}
use Rattle.std.specs.Prelude.{option_and_then, if◌then◌else◌, cond}
use Rattle.std.specs.Str.{bytes_eq}
use Rattle.std.proofs.lemmas.Bool.Decides.{Decides-eqb}
use Rattle.std.proofs.lemmas.Slice.Eq.{bytes_eq-Decides}
use Rattle.clap.proofs.WalkLemmas.{both}
use Rattle.clap.specs.Lexer.{strip_byte, long_of, long_of_rest, short_of, short_of_rest}
use Rattle.command_words.specs.WordReading.{Text, Given, Form, Plain, Named, Neither, form_of, hyphen_form, name_form, is_given, are_apart, if_apart}

-- ---- at most once

-- what is given, after some that were given before
abbrev pub total : List Given → Option (List Given) → Option (List Given)
total us rest = option_and_then (λ gs. if_apart (us ++ gs)) rest

pub total_more : (us : List Given) (g : Given) (rest : Option (List Given)) → total us (option_map (λ gs. g ∷ gs) rest) ≡ total (us ++ g ∷ []) rest
total_more us g None = refl
total_more us g (Some gs) = ap if_apart (sym (append_assoc us (g ∷ []) gs))

given_or : (name : Text) (us : List Given) (g : Given) → is_given name (us ++ g ∷ []) ≡ (is_given name us || bytes_eq g.0 name)
given_or name [] g = by (bytes_eq g.0 name)
  where
    by : (b : Bool) → (b || false) ≡ b
    by true = refl
    by false = refl
given_or name (u ∷ us) g = ap (λ b. bytes_eq u.0 name || b) (given_or name us g) ∙ or_assoc (bytes_eq u.0 name) (is_given name us) (bytes_eq g.0 name)
  where
    or_assoc : (a b d : Bool) → (a || (b || d)) ≡ ((a || b) || d)
    or_assoc true b d = refl
    or_assoc false b d = refl

pub given_last : (name text : Text) (us : List Given) → is_given name (us ++ (name, text) ∷ []) ≡ true
given_last name text us = given_or name us (name, text) ∙ by (is_given name us) (bytes_eq name name) ((bytes_eq-Decides name name).1 refl)
  where
    by : (a b : Bool) → b ≡ true → (a || b) ≡ true
    by true b e = refl
    by false b e = e

pub given_before : (name : Text) (us : List Given) (g : Given) → is_given name us ≡ true → is_given name (us ++ g ∷ []) ≡ true
given_before name us g h = given_or name us g ∙ ap (λ b. b || bytes_eq g.0 name) h

given_within : (name text : Text) (us more : List Given) → is_given name (us ++ (name, text) ∷ more) ≡ true
given_within name text [] more = ap (λ b. b || is_given name more) ((bytes_eq-Decides name name).1 refl)
given_within name text (u ∷ us) more = or_true (bytes_eq u.0 name) _ (given_within name text us more)
  where
    or_true : (a b : Bool) → b ≡ true → (a || b) ≡ true
    or_true true b e = refl
    or_true false b e = e

and_false : (a b : Bool) → b ≡ false → (a && b) ≡ false
and_false true b e = e
and_false false b e = refl

-- a name that comes again isn't apart
pub repeated : (us : List Given) (g : Given) (more : List Given) → is_given g.0 us ≡ true → are_apart (us ++ g ∷ more) ≡ false
repeated [] g more h = absurd cc
repeated (u ∷ us) g more h = by (bytes_eq u.0 g.0) refl h (repeated us g more)
  where
    by : (b : Bool) → bytes_eq u.0 g.0 ≡ b → (b || is_given g.0 us) ≡ true
        → (is_given g.0 us ≡ true → are_apart (us ++ g ∷ more) ≡ false) → are_apart ((u ∷ us) ++ g ∷ more) ≡ false
    by true e t again =
        let same : g.0 ≡ u.0 = sym ((bytes_eq-Decides u.0 g.0).0 e) in
        let there : is_given u.0 (us ++ g ∷ more) ≡ true = subst (λ (n : Text). is_given n (us ++ g ∷ more) ≡ true) same (given_within g.0 g.1 us more) in
        ap (λ b. not b && are_apart (us ++ g ∷ more)) there
    by false e t again = and_false (not (is_given u.0 (us ++ g ∷ more))) _ (again t)

-- and a name that is new leaves them apart
pub added : (us : List Given) (g : Given) → are_apart us ≡ true → is_given g.0 us ≡ false → are_apart (us ++ g ∷ []) ≡ true
added [] g a h = refl
added (u ∷ us) g a h =
    let parts = both (not (is_given u.0 us)) (are_apart us) a in
    let here = neither (bytes_eq u.0 g.0) (is_given g.0 us) h in
    let turned : bytes_eq g.0 u.0 ≡ false = other (bytes_eq g.0 u.0) refl here.0 in
    let new : is_given u.0 (us ++ g ∷ []) ≡ false = given_or u.0 us g ∙ (λ i. was (is_given u.0 us) parts.0 i || turned i) in
    λ i. not (new i) && added us g parts.1 here.1 i
  where
    neither : (a b : Bool) → (a || b) ≡ false → (a ≡ false) × (b ≡ false)
    neither true b e = absurd cc
    neither false b e = (refl, e)

    was : (b : Bool) → not b ≡ true → b ≡ false
    was true e = absurd cc
    was false e = refl

    other : (b : Bool) → bytes_eq g.0 u.0 ≡ b → bytes_eq u.0 g.0 ≡ false → b ≡ false
    other true e f =
        let there : bytes_eq u.0 g.0 ≡ true = (bytes_eq-Decides u.0 g.0).1 (sym ((bytes_eq-Decides g.0 u.0).0 e)) in
        absurd cc
    other false e f = refl

-- ---- how a word looks

abbrev pub LooksAs : Text → Form → Type 0
LooksAs word Plain = (bytes_eq word (45 ∷ 45 ∷ []) ≡ false) × (long_of word ≡ None) × (short_of word ≡ None)
LooksAs word (Named name value) = (bytes_eq word (45 ∷ 45 ∷ []) ≡ false) × (long_of word ≡ Some (name, value))
LooksAs word Neither = Unit {0}

looks_name : (bs : Text) → LooksAs (45 ∷ 45 ∷ bs) (name_form bs)
looks_name [] = tt
looks_name (b ∷ bs) = (refl, refl)

looks_hyphen : (xs : Text) → LooksAs (45 ∷ xs) (hyphen_form xs)
looks_hyphen [] = tt
looks_hyphen (x ∷ xs) = by (x == 45) refl
  where
    by : (b : Bool) → (x == 45) ≡ b → LooksAs (45 ∷ x ∷ xs) (if b then name_form xs else Neither)
    by true e = subst (λ (y : ℕ). LooksAs (45 ∷ y ∷ xs) (name_form xs)) (sym ((Decides-eqb x 45).0 e)) (looks_name xs)
    by false e = tt

pub looks : (word : Text) → LooksAs word (form_of word)
looks [] = tt
looks (x ∷ xs) = by (x == 45) refl
  where
    by : (b : Bool) → (x == 45) ≡ b → LooksAs (x ∷ xs) (if b then hyphen_form xs else Plain)
    by true e = subst (λ (y : ℕ). LooksAs (y ∷ xs) (hyphen_form xs)) (sym ((Decides-eqb x 45).0 e)) (looks_hyphen xs)
    by false e =
        let none : strip_byte 45 (x ∷ xs) ≡ None = ap (λ b. cond b (Some xs) None) e in
        (ap (λ b. b && bytes_eq xs (45 ∷ [])) e, ap (λ o. option_and_then long_of_rest (option_and_then (strip_byte 45) o)) none, ap (λ o. option_and_then short_of_rest o) none)
