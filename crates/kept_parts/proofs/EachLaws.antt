-- A walk over a list that tests each element.
use Rattle.std.proofs.Common.{◌≡◌, ℕ, zero, suc, ◌+◌, ◌<◌, ◌↔◌, Bool, true, false, IsTrue, Option, Some, None, List, [], ◌∷◌, ◌++◌, length, take, get_or, refl, sym, ap, ◌∙◌, subst, true≢false, arith}
use Rattle.std.specs.Prelude.{is_some}
use Rattle.std.specs.Option.{option_map}
use Rattle.std.specs.List.{AllByRecursion}
use Rattle.std.proofs.ByRecursion.{All-push}
use Rattle.std.proofs.lemmas.List.{take_more}
use Rattle.py_tree.specs.ClassRules.{PlainTable}
use Rattle.sf_value.specs.declared.Entry.{Entry}
use Rattle.program_meaning.specs.Fits.{OutcomeFits}
use Rattle.request_history.specs.SoundHistory.{RequestFits, EntriesFit}

-- the next element stands behind those before it
pub one_more : {A : Type 0} (xs : List A) (i : ℕ) (x : A) → i < length xs → x ≡ get_or xs i x → take (i + 1) xs ≡ take i xs ++ x ∷ []
one_more xs i x within is = take_more xs i x within ∙ ap (λ y. take i xs ++ y ∷ []) (sym is)

module _ {A : Type 0} (P : A → Type 0) where
  at_place : (xs : List A) (i : ℕ) (d : A) → i < length xs → AllByRecursion P xs → P (get_or xs i d)
  at_place [] i d within all = absurd (omega (arith, within))
  at_place (x ∷ xs) zero d within all = all.0
  at_place (x ∷ xs) (suc i) d within all = at_place xs i d (omega (arith, within)) all.1

  module _ (xs : List A) (i : ℕ) (x : A) (within : i < length xs) (is : x ≡ get_or xs i x) where
    pub each_more : AllByRecursion P (take i xs) → P x → AllByRecursion P (take (i + 1) xs)
    each_more before this = subst (AllByRecursion P) (sym (one_more xs i x within is)) (All-push P (take i xs) x before this)

    pub each_stop : (P x → ⊥) → AllByRecursion P xs → ⊥
    each_stop never all = never (subst P (sym is) (at_place xs i x within all))

-- the answers of a test
pub holds : {P : Type 0} → P → IsTrue true ↔ P
holds p = (λ _. p, λ _. refl)

pub fails : {P : Type 0} → (P → ⊥) → IsTrue false ↔ P
fails never = (λ e. absurd (true≢false (sym e)), λ p. absurd (never p))

pub refuses : {P : Type 0} (b : Bool) → b ≡ false → IsTrue b ↔ P → P → ⊥
refuses b off h p = true≢false (sym (h.1 p) ∙ off)

-- Entries

-- an entry fits: its request, and what it came to
abbrev pub EntryFits : List PlainTable → Entry → Type 0
EntryFits tables e = RequestFits tables e.request × OutcomeFits tables e.request.act e.outcome

pub each_of_entries : (tables : List PlainTable) (es : List Entry) → EntriesFit tables es → AllByRecursion (EntryFits tables) es
each_of_entries tables [] fit = tt
each_of_entries tables (e ∷ es) fit = ((fit.0, fit.1), each_of_entries tables es fit.2)

pub entries_of_each : (tables : List PlainTable) (es : List Entry) → AllByRecursion (EntryFits tables) es → EntriesFit tables es
entries_of_each tables [] fit = tt
entries_of_each tables (e ∷ es) fit = (fit.0.0, fit.0.1, entries_of_each tables es fit.1)

-- What a look-up says

pub is_there : {A B : Type 0} (f : A → B) (o : Option A) (p : Option B) → option_map f o ≡ p → is_some o ≡ is_some p
is_there f None p same = ap is_some same
is_there f (Some x) p same = ap is_some same
