-- The outcomes of flights that are over, taken out one after another.
use Rattle.std.proofs.Common.{◌≡◌, ◌∙◌, ℕ, suc, arith, ◌+◌, ◌<◌, Bool, true, false, List, [], ◌∷◌, ◌++◌, Some, length, take, drop, append_assoc, refl, sym, ap}
use Rattle.std.specs.Prelude.{slice_get, slice_set}
use Rattle.std.proofs.lemmas.Option.{slice_get_within, get_or_from_slice_get}
use Rattle.std.proofs.lemmas.List.{drop-set-lt}
use Rattle.std.proofs.lemmas.Grind.{take-set_at}
use Rattle.sf_value.specs.declared.Outcome.{Outcome}
use Rattle.transaction_steps.specs.Transactions.{is_done}
use Rattle.operator_graph.specs.declared.flight.Flight.{Flight}
use Rattle.operator_graph.specs.Going.{going, come_to, all_come_to}
use Rattle.operator_graph.proofs.GoingLaws.{from_item, done_first, going_first}

-- the item at a place is the first of what is left from there on
pub from_place : {A : Type 0} (xs : List A) (i : ℕ) (x : A) → slice_get xs i ≡ Some x → drop i xs ≡ x ∷ drop (i + 1) xs
from_place xs i x is = from_item xs i x (slice_get_within xs i x is) (sym (get_or_from_slice_get xs i x x is))

-- where none goes on, the first is over, and none of the others goes on
pub all_over : (f : Flight) (fs : List Flight) → going (f ∷ fs) ≡ 0 → (is_done f.next.kind ≡ true) × (going fs ≡ 0)
all_over f fs none = by (is_done f.next.kind) refl
  where
    by : (b : Bool) → is_done f.next.kind ≡ b → (is_done f.next.kind ≡ true) × (going fs ≡ 0)
    by true over = (over, sym (done_first f fs over) ∙ none)
    by false runs = let some : suc (going fs) ≡ 0 = sym (going_first f fs runs) ∙ none in absurd (omega (arith, some))

pub is_over_at : (fs : List Flight) (i : ℕ) (f : Flight) → slice_get fs i ≡ Some f → going (drop i fs) ≡ 0 → is_done f.next.kind ≡ true
is_over_at fs i f is none = (all_over f (drop (i + 1) fs) (sym (ap going (from_place fs i f is)) ∙ none)).0

pub over_behind : (fs : List Flight) (i : ℕ) (f new : Flight) → slice_get fs i ≡ Some f → going (drop i fs) ≡ 0 → going (drop (i + 1) (slice_set fs i new)) ≡ 0
over_behind fs i f new is none =
    let later : i < i + 1 = omega arith in
    ap going (drop-set-lt (i + 1) fs i new later) ∙ (all_over f (drop (i + 1) fs) (sym (ap going (from_place fs i f is)) ∙ none)).1

-- one outcome more is taken
pub taken_more : (fs : List Flight) (outcomes later all : List Outcome) (i : ℕ) (f new : Flight) (o : Outcome) → slice_get fs i ≡ Some f → length outcomes ≡ length fs → o ≡ come_to f.next.kind → later ≡ slice_set outcomes i o
    → take i outcomes ++ all_come_to (drop i fs) ≡ all → take (i + 1) later ++ all_come_to (drop (i + 1) (slice_set fs i new)) ≡ all
taken_more fs outcomes later all i f new o is many same put so_far =
    let within : i < length fs = slice_get_within fs i f is in
    let room : i < length outcomes = omega (arith, within, many) in
    let next : i < i + 1 = omega arith in
    let rest : List Outcome = all_come_to (drop (i + 1) fs) in
    ap (λ os. take (i + 1) os ++ all_come_to (drop (i + 1) (slice_set fs i new))) put
    ∙ ap (λ os. os ++ all_come_to (drop (i + 1) (slice_set fs i new))) (take-set_at outcomes i (i + 1) o refl room)
    ∙ ap (λ left. (take i outcomes ++ o ∷ []) ++ all_come_to left) (drop-set-lt (i + 1) fs i new next)
    ∙ append_assoc (take i outcomes) (o ∷ []) rest
    ∙ ap (λ x. take i outcomes ++ x ∷ rest) same
    ∙ ap (λ left. take i outcomes ++ all_come_to left) (sym (from_place fs i f is))
    ∙ so_far
