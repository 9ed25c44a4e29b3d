-- What is read of words is what they ask for, and nothing else is asked for.
use Rattle.std.proofs.Common.{◌≡◌, inl, inr, Bool, true, false, ◌&&◌, not, List, [], ◌∷◌, Option, Some, None, refl, sym, ap, ◌∙◌, subst, codes}
use Rattle.std.specs.Prelude.{IfSome, option_and_then, if◌then◌else◌, Result, Ok, Err}
use Rattle.std.specs.Str.{bytes_eq}
use Rattle.std.proofs.lemmas.Slice.Eq.{bytes_eq-Decides}
use Rattle.clap.proofs.WalkLemmas.{both}
use Rattle.command_words.specs.WordReading.{Text, Parts, Given, given_from, if_apart, are_apart}
use Rattle.command_words.specs.Grammar.{Give}
use Rattle.command_words.specs.Commands.{Texts, texts_in, Asked, Form, forms, audit_of, ◌>>?◌, AskWith, AskOneOf, Ask, asked_by}
use Rattle.command_words.specs.CommandReading.{asked_with, asked_of, asked_by_name, asked}
use Rattle.command_words.specs.Readings.{Reads, ReadsOnly}
use Rattle.command_words.specs.declared.command.Command.{Command}
use Rattle.command_words.specs.declared.command.WordsError.{WordsError}
use Rattle.command_words.specs.declared.command.WordsError.TheVariants.{Usage, NoMemory}
use Rattle.command_words.proofs.GrammarLaws.{HasNames, have_names, have_names-true, not_true, sound, complete}

-- ---- what is read is asked for

read_sound : {X : Type 0} (parts : Parts) (read : Texts → Option X) (words : List Text) (P : X → Type 0)
    → ((gs : List Given) → Give parts words gs → are_apart gs ≡ true → IfSome (read (texts_in gs)) P) → IfSome (asked_with parts read words) P
unfolding asked_with
read_sound parts read words P f = from (given_from parts None words) (sound parts words).0
  where
    once : (gs : List Given) (b : Bool) → are_apart gs ≡ b → Give parts words gs → IfSome ((if b then Some gs else None) >>? (λ hs. read (texts_in hs))) P
    once gs true e g = f gs g e
    once gs false e g = tt

    from : (o : Option (List Given)) → IfSome o (Give parts words) → IfSome (option_and_then if_apart o >>? (λ gs. read (texts_in gs))) P
    from None h = tt
    from (Some gs) g = once gs (are_apart gs) refl g

some_is : {X : Type 0} (o : Option X) (P : X → Type 0) → ((x : X) → o ≡ Some x → P x) → IfSome o P
some_is None P f = tt
some_is (Some x) P f = f x refl

weaker : {X : Type 0} (o : Option X) (P Q : X → Type 0) → ((x : X) → P x → Q x) → IfSome o P → IfSome o Q
weaker None P Q f h = tt
weaker (Some x) P Q f h = f x h

choose : (name other : Text) (x y : Option Asked) (P : Asked → Type 0) → (name ≡ other → IfSome x P) → IfSome y P → IfSome (if bytes_eq name other then x else y) P
choose name other x y P here there = by (bytes_eq name other) refl
  where
    by : (b : Bool) → bytes_eq name other ≡ b → IfSome (if b then x else y) P
    by true e = here ((bytes_eq-Decides name other).0 e)
    by false e = there

sound_of : (fs : List Form) (name : Text) (words : List Text) → IfSome (asked_of fs name words) (AskOneOf fs name words)
sound_of [] name words = tt
sound_of (form ∷ more) name words =
    let Asks = AskWith form.parts form.read words in
    choose name form.name _ _ (AskOneOf (form ∷ more) name words)
    (λ is. weaker (asked_with form.parts form.read words) Asks _ (λ a h. inl (is, h))
    (read_sound form.parts form.read words Asks (λ gs g e. some_is (form.read (texts_in gs)) Asks (λ a read. (gs, g, e, read)))))
    (weaker (asked_of more name words) (AskOneOf more name words) _ (λ a h. inr h) (sound_of more name words))

asked_sound : (words : List Text) → IfSome (asked words) (Ask words)
unfolding asked_by_name
asked_sound [] = tt
asked_sound (name ∷ words) =
    choose name (codes "audit") (audit_of words) (asked_of forms name words) (Ask (name ∷ words))
    (λ is. some_is (audit_of words) (Ask (name ∷ words)) (λ a read. inr (is, read)))
    (weaker (asked_of forms name words) (AskOneOf forms name words) (Ask (name ∷ words)) (λ a h. inl h) (sound_of forms name words))

pub read_asks : (words : List Text) (a : Asked) → asked words ≡ Some a → Ask words a
read_asks words a is = subst (λ (o : Option Asked). IfSome o (Ask words)) is (asked_sound words)

-- ---- what is asked for is read

read_complete : {X : Type 0} (parts : Parts) (read : Texts → Option X) (words : List Text) (x : X) → HasNames parts → AskWith parts read words x → asked_with parts read words ≡ Some x
unfolding asked_with
read_complete parts read words x names h =
    ap (λ (o : Option (List Given)). option_and_then if_apart o >>? (λ gs. read (texts_in gs))) (complete parts names h.1)
    ∙ ap (λ b. (if b then Some h.0 else None) >>? (λ gs. read (texts_in gs))) h.2
    ∙ h.3

same_name : (name other : Text) → name ≡ other → bytes_eq name other ≡ true
same_name name other is = (bytes_eq-Decides name other).1 is

abbrev is_named : List Form → Text → Bool
is_named [] name = false
is_named (form ∷ more) name = if bytes_eq name form.name then true else is_named more name

asked_named : (fs : List Form) (name : Text) (words : List Text) (a : Asked) → AskOneOf fs name words a → is_named fs name ≡ true
asked_named [] name words a h = absurd h
asked_named (form ∷ more) name words a (inl h) = ap (λ b. if b then true else is_named more name) (same_name name form.name h.0)
asked_named (form ∷ more) name words a (inr h) = past (bytes_eq name form.name) (is_named more name) (asked_named more name words a h)
  where
    past : (b c : Bool) → c ≡ true → (if b then true else c) ≡ true
    past true c e = refl
    past false c e = e

-- each has names for what it can be given, and no two have one name
abbrev are_told_apart : List Form → Bool
are_told_apart [] = true
are_told_apart (form ∷ more) = have_names form.parts && (not (is_named more form.name) && are_told_apart more)

complete_of : (fs : List Form) → are_told_apart fs ≡ true → (name : Text) (words : List Text) (a : Asked) → AskOneOf fs name words a → asked_of fs name words ≡ Some a
complete_of [] apart name words a h = absurd h
complete_of (form ∷ more) apart name words a (inl h) =
    ap (λ b. if b then asked_with form.parts form.read words else asked_of more name words) (same_name name form.name h.0)
    ∙ read_complete form.parts form.read words a (have_names-true form.parts (both (have_names form.parts) _ apart).0) h.1
complete_of (form ∷ more) apart name words a (inr h) =
    ap (λ b. if b then asked_with form.parts form.read words else asked_of more name words) (by (bytes_eq name form.name) refl)
    ∙ complete_of more (both (not (is_named more form.name)) (are_told_apart more) behind).1 name words a h
  where
    behind : (not (is_named more form.name) && are_told_apart more) ≡ true
    behind = (both (have_names form.parts) _ apart).1

    by : (b : Bool) → bytes_eq name form.name ≡ b → b ≡ false
    by false e = refl
    by true e =
        let named : is_named more form.name ≡ true = subst (λ n. is_named more n ≡ true) ((bytes_eq-Decides name form.name).0 e) (asked_named more name words a h) in
        sym named ∙ not_true (is_named more form.name) (both (not (is_named more form.name)) (are_told_apart more) behind).0

pub asked_complete : (words : List Text) (a : Asked) → Ask words a → asked words ≡ Some a
unfolding asked_by_name
asked_complete [] a h = absurd h
asked_complete (name ∷ words) a (inl h) =
    ap (λ b. if b then audit_of words else asked_of forms name words) (by (bytes_eq name (codes "audit")) refl) ∙ complete_of forms refl name words a h
  where
    by : (b : Bool) → bytes_eq name (codes "audit") ≡ b → b ≡ false
    by false e = refl
    by true e = sym (subst (λ n. is_named forms n ≡ true) ((bytes_eq-Decides name (codes "audit")).0 e) (asked_named forms name words a h))
asked_complete (name ∷ words) a (inr h) = ap (λ b. if b then audit_of words else asked_of forms name words) (same_name name (codes "audit") h.0) ∙ h.1

-- ---- so it is the one thing that is asked for

some_same : (a b : Asked) → Some a ≡ Some b → a ≡ b
some_same a b e = ap (λ (o : Option Asked). or_first o) e
  where
    or_first : Option Asked → Asked
    or_first None = a
    or_first (Some x) = x

pub only : (words : List Text) (r : Result Command WordsError) → Reads asked_by (asked words) r → ReadsOnly asked_by (Ask words) r
only words (Ok c) h = (
  read_asks words (asked_by c) h,
  λ other a. some_same other (asked_by c) (sym (asked_complete words other a) ∙ h),
)
only words (Err Usage) h = λ other a. none_some other (sym h ∙ asked_complete words other a)
  where
    none_some : (other : Asked) → None ≡ Some other → ⊥
    none_some other e = cc
only words (Err NoMemory) h = tt

-- so it is known which of them was read
pub read_so : (words : List Text) (r : Result Command WordsError) → ReadsOnly asked_by (Ask words) r → Reads asked_by (asked words) r
read_so words (Ok c) h = asked_complete words (asked_by c) h.0
read_so words (Err Usage) h = by (asked words) (read_asks words)
  where
    by : (o : Option Asked) → ((a : Asked) → o ≡ Some a → Ask words a) → o ≡ None
    by None f = refl
    by (Some a) f = absurd (h a (f a refl))
read_so words (Err NoMemory) h = tt
