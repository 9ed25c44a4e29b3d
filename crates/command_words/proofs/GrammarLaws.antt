-- The grammar of words, and how words are read by it.
use Rattle.std.proofs.Common.{◌≡◌, ℕ, suc, ◌==◌, ◌+◌, Bool, true, false, not, ◌&&◌, ◌||◌, List, [], ◌∷◌, ◌++◌, take, drop, Option, Some, None, refl, sym, ap, ap₂, ◌∙◌, subst, codes, arith}
use Rattle.std.specs.Prelude.{IfSome, option_map, if◌then◌else◌, cond}
use Rattle.std.specs.List.{list_any, list_all, before_first, after_first, position_or_len}
use Rattle.std.specs.Str.{bytes_eq}
use Rattle.std.proofs.lemmas.Bool.Decides.{Decides-eqb}
use Rattle.std.proofs.lemmas.Slice.Eq.{bytes_eq-Decides}
use Rattle.clap.proofs.WalkLemmas.{both}
use Rattle.command_words.specs.WordReading.{Text, Parts, Given, Form, Plain, Named, Neither, form_of, hyphen_form, name_form, is_equals, is_among, Gives, Wants, Nothing, said_by, joined as then_joined, behind_name, given_from}
use Rattle.command_words.specs.Grammar.{Give, nothing, file, apart, joined, flag, stands_alone, long, equals}

-- ---- the first equals sign

before_here : (b : ℕ) (bs : Text) → is_equals b ≡ true → before_first is_equals (b ∷ bs) ≡ []
before_here b bs e = ap (λ t. take (cond (not t) (1 + position_or_len is_equals bs) 0) (b ∷ bs)) e

before_later : (b : ℕ) (bs : Text) → is_equals b ≡ false → before_first is_equals (b ∷ bs) ≡ b ∷ before_first is_equals bs
before_later b bs e =
    let same : 1 + position_or_len is_equals bs ≡ suc (position_or_len is_equals bs) = omega arith in
    ap (λ t. take (cond (not t) (1 + position_or_len is_equals bs) 0) (b ∷ bs)) e ∙ ap (λ n. take n (b ∷ bs)) same

after_here : (b : ℕ) (bs : Text) → is_equals b ≡ true → after_first is_equals (b ∷ bs) ≡ bs
after_here b bs e = ap (λ t. drop (cond (not t) (1 + position_or_len is_equals bs) 0 + 1) (b ∷ bs)) e

after_later : (b : ℕ) (bs : Text) → is_equals b ≡ false → after_first is_equals (b ∷ bs) ≡ after_first is_equals bs
after_later b bs e =
    let same : (1 + position_or_len is_equals bs) + 1 ≡ suc (position_or_len is_equals bs + 1) = omega arith in
    ap (λ t. drop (cond (not t) (1 + position_or_len is_equals bs) 0 + 1) (b ∷ bs)) e ∙ ap (λ n. drop n (b ∷ bs)) same

no_equals : (bs : Text) → list_any is_equals bs ≡ false → before_first is_equals bs ≡ bs
no_equals [] e = refl
no_equals (b ∷ bs) e = by (is_equals b) refl e (no_equals bs)
  where
    by : (t : Bool) → is_equals b ≡ t → (t || list_any is_equals bs) ≡ false → (list_any is_equals bs ≡ false → before_first is_equals bs ≡ bs)
        → before_first is_equals (b ∷ bs) ≡ b ∷ bs
    by true is h later = absurd cc
    by false is h later = before_later b bs is ∙ ap (λ xs. b ∷ xs) (later h)

split_equals : (bs : Text) → list_any is_equals bs ≡ true → bs ≡ before_first is_equals bs ++ 61 ∷ after_first is_equals bs
split_equals [] e = absurd cc
split_equals (b ∷ bs) e = by (is_equals b) refl e (split_equals bs)
  where
    by : (t : Bool) → is_equals b ≡ t → (t || list_any is_equals bs) ≡ true
        → (list_any is_equals bs ≡ true → bs ≡ before_first is_equals bs ++ 61 ∷ after_first is_equals bs)
        → b ∷ bs ≡ before_first is_equals (b ∷ bs) ++ 61 ∷ after_first is_equals (b ∷ bs)
    by true is h later = sym (ap₂ (λ (x y : Text). x ++ 61 ∷ y) (before_here b bs is) (after_here b bs is) ∙ ap (λ n. n ∷ bs) (sym ((Decides-eqb b 61).0 is)))
    by false is h later = ap (λ xs. b ∷ xs) (later h) ∙ sym (ap₂ (λ (x y : Text). x ++ 61 ∷ y) (before_later b bs is) (after_later b bs is))

joined_any : (name value : Text) → list_any is_equals (name ++ 61 ∷ value) ≡ true
joined_any [] value = refl
joined_any (b ∷ bs) value = or_true (is_equals b) _ (joined_any bs value)
  where
    or_true : (a d : Bool) → d ≡ true → (a || d) ≡ true
    or_true true d e = refl
    or_true false d e = e

joined_parts : (name value : Text) → list_any is_equals name ≡ false
    → (before_first is_equals (name ++ 61 ∷ value) ≡ name) × (after_first is_equals (name ++ 61 ∷ value) ≡ value)
joined_parts [] value e = (before_here 61 value refl, after_here 61 value refl)
joined_parts (b ∷ bs) value e = by (is_equals b) refl e (joined_parts bs value)
  where
    by : (t : Bool) → is_equals b ≡ t → (t || list_any is_equals bs) ≡ false
        → (list_any is_equals bs ≡ false → (before_first is_equals (bs ++ 61 ∷ value) ≡ bs) × (after_first is_equals (bs ++ 61 ∷ value) ≡ value))
        → (before_first is_equals (b ∷ (bs ++ 61 ∷ value)) ≡ b ∷ bs) × (after_first is_equals (b ∷ (bs ++ 61 ∷ value)) ≡ value)
    by true is h later = absurd cc
    by false is h later = (before_later b (bs ++ 61 ∷ value) is ∙ ap (λ xs. b ∷ xs) (later h).0, after_later b (bs ++ 61 ∷ value) is ∙ (later h).1)

-- ---- words that are read

abbrev SpeltAs : Text → Form → Type 0
SpeltAs word Plain = stands_alone word ≡ true
SpeltAs word (Named name None) = word ≡ long name
SpeltAs word (Named name (Some value)) = word ≡ long name ++ equals value
SpeltAs word Neither = Unit {0}

spelt_name : (bs : Text) → SpeltAs (45 ∷ 45 ∷ bs) (name_form bs)
spelt_name [] = tt
spelt_name (b ∷ bs) = by (list_any is_equals (b ∷ bs)) refl
  where
    by : (t : Bool) → list_any is_equals (b ∷ bs) ≡ t
        → SpeltAs (45 ∷ 45 ∷ b ∷ bs) (Named (before_first is_equals (b ∷ bs)) (if t then Some (after_first is_equals (b ∷ bs)) else None))
    by true e = ap (λ xs. 45 ∷ 45 ∷ xs) (split_equals (b ∷ bs) e)
    by false e = ap (λ xs. 45 ∷ 45 ∷ xs) (sym (no_equals (b ∷ bs) e))

spelt_hyphen : (xs : Text) → SpeltAs (45 ∷ xs) (hyphen_form xs)
spelt_hyphen [] = tt
spelt_hyphen (x ∷ xs) = by (x == 45) refl
  where
    by : (b : Bool) → (x == 45) ≡ b → SpeltAs (45 ∷ x ∷ xs) (if b then name_form xs else Neither)
    by true e = subst (λ (y : ℕ). SpeltAs (45 ∷ y ∷ xs) (name_form xs)) (sym ((Decides-eqb x 45).0 e)) (spelt_name xs)
    by false e = tt

spelt : (word : Text) → SpeltAs word (form_of word)
spelt [] = tt
spelt (x ∷ xs) = by (x == 45) refl
  where
    by : (b : Bool) → (x == 45) ≡ b → SpeltAs (x ∷ xs) (if b then hyphen_form xs else Plain)
    by true e = subst (λ (y : ℕ). SpeltAs (y ∷ xs) (hyphen_form xs)) (sym ((Decides-eqb x 45).0 e)) (spelt_hyphen xs)
    by false e = ap not e

-- ---- what is read is what the words give

mapped : (g : Given) (o : Option (List Given)) (P Q : List Given → Type 0) → ((gs : List Given) → P gs → Q (g ∷ gs)) → IfSome o P → IfSome (option_map (λ gs. g ∷ gs) o) Q
mapped g None P Q f h = tt
mapped g (Some gs) P Q f h = f gs h

module _ (parts : Parts) where
  abbrev IsSound : List Text → Type 0
  IsSound ws = IfSome (given_from parts None ws) (Give parts ws)
      × ((name : Text) → is_among parts.options name ≡ true → IfSome (given_from parts (Some name) ws) (Give parts (long name ∷ ws)))

  said_sound : (word : Text) (rest : List Text) (f : Form) → SpeltAs word f → IsSound rest
      → IfSome (then_joined (said_by parts word f) (given_from parts None rest) (λ n. given_from parts (Some n) rest)) (Give parts (word ∷ rest))
  said_sound word rest Plain alone h = by parts.file refl
    where
      by : (b : Bool) → parts.file ≡ b
          → IfSome (then_joined (if b then Gives (codes "FILE", word) else Nothing) (given_from parts None rest) (λ n. given_from parts (Some n) rest)) (Give parts (word ∷ rest))
      by true e = mapped (codes "FILE", word) (given_from parts None rest) (Give parts rest) (Give parts (word ∷ rest)) (λ gs g. file e alone g) h.0
      by false e = tt
  said_sound word rest (Named name (Some value)) is h = by (is_among parts.options name) refl
    where
      by : (b : Bool) → is_among parts.options name ≡ b
          → IfSome (then_joined (if b then Gives (name, value) else Nothing) (given_from parts None rest) (λ n. given_from parts (Some n) rest)) (Give parts (word ∷ rest))
      by true e = subst (λ (w : Text). IfSome (option_map (λ gs. (name, value) ∷ gs) (given_from parts None rest)) (Give parts (w ∷ rest))) (sym is)
          (mapped (name, value) (given_from parts None rest) (Give parts rest) (Give parts ((long name ++ equals value) ∷ rest)) (λ gs g. joined e g) h.0)
      by false e = tt
  said_sound word rest (Named name None) is h = by (is_among parts.options name) (is_among parts.flags name) refl refl
    where
      by : (a b : Bool) → is_among parts.options name ≡ a → is_among parts.flags name ≡ b
          → IfSome (then_joined (if a then Wants name else (if b then Gives (name, codes "true") else Nothing)) (given_from parts None rest) (λ n. given_from parts (Some n) rest))
          (Give parts (word ∷ rest))
      by true b e f = subst (λ (w : Text). IfSome (given_from parts (Some name) rest) (Give parts (w ∷ rest))) (sym is) (h.1 name e)
      by false true e f = subst (λ (w : Text). IfSome (option_map (λ gs. (name, codes "true") ∷ gs) (given_from parts None rest)) (Give parts (w ∷ rest))) (sym is)
          (mapped (name, codes "true") (given_from parts None rest) (Give parts rest) (Give parts (long name ∷ rest)) (λ gs g. flag f g) h.0)
      by false false e f = tt
  said_sound word rest Neither is h = tt

  wanted_sound : (name word : Text) (rest : List Text) (f : Form) → is_among parts.options name ≡ true → SpeltAs word f → IsSound rest
      → IfSome (behind_name name word f (given_from parts None rest)) (Give parts (long name ∷ word ∷ rest))
  wanted_sound name word rest Plain e alone h =
      mapped (name, word) (given_from parts None rest) (Give parts rest) (Give parts (long name ∷ word ∷ rest)) (λ gs g. apart e alone g) h.0
  wanted_sound name word rest (Named other v) e is h = tt
  wanted_sound name word rest Neither e is h = tt

  pub sound : (ws : List Text) → IsSound ws
  sound [] = (nothing, λ name e. tt)
  sound (word ∷ rest) =
      let later = sound rest in
      (said_sound word rest (form_of word) (spelt word) later, λ name e. wanted_sound name word rest (form_of word) e (spelt word) later)

-- ---- what the words give is read

abbrev pub is_name : Text → Bool
is_name [] = false
is_name (b ∷ bs) = not (list_any is_equals (b ∷ bs))

-- names are texts without an equals sign, and no flag is an option
pub record HasNames (parts : Parts) : Type 0 where
  pub options : list_all is_name parts.options ≡ true
  pub flags : list_all (λ n. is_name n && not (is_among parts.options n)) parts.flags ≡ true

-- as a test
abbrev pub have_names : Parts → Bool
have_names parts = list_all is_name parts.options && list_all (λ n. is_name n && not (is_among parts.options n)) parts.flags

pub have_names-true : (parts : Parts) → have_names parts ≡ true → HasNames parts
have_names-true parts e =
    let two = both (list_all is_name parts.options) (list_all (λ n. is_name n && not (is_among parts.options n)) parts.flags) e in
    record { options = two.0; flags = two.1 }

pub not_true : (b : Bool) → not b ≡ true → b ≡ false
not_true true e = absurd cc
not_true false e = refl

passes_at : (p : Text → Bool) (names : List Text) (name : Text) → list_all p names ≡ true → is_among names name ≡ true → p name ≡ true
passes_at p [] name h e = absurd cc
passes_at p (n ∷ ns) name h e = by (bytes_eq n name) refl e (passes_at p ns name (both (p n) (list_all p ns) h).1)
  where
    by : (b : Bool) → bytes_eq n name ≡ b → (b || is_among ns name) ≡ true → (is_among ns name ≡ true → p name ≡ true) → p name ≡ true
    by true is t later = ap p (sym ((bytes_eq-Decides n name).0 is)) ∙ (both (p n) (list_all p ns) h).0
    by false is t later = later t

form_alone : (word : Text) → stands_alone word ≡ true → form_of word ≡ Plain
form_alone [] e = absurd cc
form_alone (b ∷ bs) e = ap (λ t. if t then hyphen_form bs else Plain) (not_true (b == 45) e)

form_long : (name : Text) → is_name name ≡ true → form_of (long name) ≡ Named name None
form_long [] e = absurd cc
form_long (b ∷ bs) e =
    let none = not_true (list_any is_equals (b ∷ bs)) e in
    ap₂ (λ (x : Text) (t : Bool). Named x (if t then Some (after_first is_equals (b ∷ bs)) else None)) (no_equals (b ∷ bs) none) none

form_joined : (name value : Text) → is_name name ≡ true → form_of (long name ++ equals value) ≡ Named name (Some value)
form_joined [] value e = absurd cc
form_joined (b ∷ bs) value e =
    let parts = joined_parts (b ∷ bs) value (not_true (list_any is_equals (b ∷ bs)) e) in
    λ i. Named (parts.0 i) (if joined_any (b ∷ bs) value i then Some (parts.1 i) else None)

module _ (parts : Parts) (names : HasNames parts) where
  option_name : (name : Text) → is_among parts.options name ≡ true → is_name name ≡ true
  option_name name e = passes_at is_name parts.options name names.options e

  flag_name : (name : Text) → is_among parts.flags name ≡ true → (is_name name ≡ true) × (is_among parts.options name ≡ false)
  flag_name name e =
      let h = both (is_name name) (not (is_among parts.options name)) (passes_at (λ n. is_name n && not (is_among parts.options n)) parts.flags name names.flags e) in
      (h.0, not_true (is_among parts.options name) h.1)

  abbrev then_said : Text → List Text → Form → Option (List Given)
  then_said word rest f = then_joined (said_by parts word f) (given_from parts None rest) (λ n. given_from parts (Some n) rest)

  pub complete : {ws : List Text} {gs : List Given} → Give parts ws gs → given_from parts None ws ≡ Some gs
  complete nothing = refl
  complete (file {word} {rest} {gs} e alone g) =
      ap (then_said word rest) (form_alone word alone)
      ∙ ap (λ b. then_joined (if b then Gives (codes "FILE", word) else Nothing) (given_from parts None rest) (λ n. given_from parts (Some n) rest)) e
      ∙ ap (option_map (λ hs. (codes "FILE", word) ∷ hs)) (complete g)
  complete (apart {name} {value} {rest} {gs} e alone g) =
      ap (then_said (long name) (value ∷ rest)) (form_long name (option_name name e))
      ∙ ap (λ b. then_joined (if b then Wants name else (if is_among parts.flags name then Gives (name, codes "true") else Nothing)) (given_from parts None (value ∷ rest)) (λ n. given_from parts (Some n) (value ∷ rest))) e
      ∙ ap (λ f. behind_name name value f (given_from parts None rest)) (form_alone value alone)
      ∙ ap (option_map (λ hs. (name, value) ∷ hs)) (complete g)
  complete (joined {name} {value} {rest} {gs} e g) =
      ap (then_said (long name ++ equals value) rest) (form_joined name value (option_name name e))
      ∙ ap (λ b. then_joined (if b then Gives (name, value) else Nothing) (given_from parts None rest) (λ n. given_from parts (Some n) rest)) e
      ∙ ap (option_map (λ hs. (name, value) ∷ hs)) (complete g)
  complete (flag {name} {rest} {gs} e g) =
      ap (then_said (long name) rest) (form_long name (flag_name name e).0)
      ∙ ap₂ (λ (a b : Bool). then_joined (if a then Wants name else (if b then Gives (name, codes "true") else Nothing)) (given_from parts None rest) (λ n. given_from parts (Some n) rest)) (flag_name name e).1 e
      ∙ ap (option_map (λ hs. (name, codes "true") ∷ hs)) (complete g)
