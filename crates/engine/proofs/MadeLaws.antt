-- What is made of a batch that ran is what its commit asks for.
use Rattle.std.proofs.Common.{◌≡◌, ℕ, zero, suc, true, false, List, [], ◌∷◌, ◌++◌, map as over, Option, None, Some, refl, sym, ap, ◌∙◌}
use Rattle.std.specs.Prelude.{bytes_eq, not, ◌&&◌, ◌||◌}
use Rattle.std.specs.List.{slice_get, cons_option, AllByRecursion, IsDistinct}
use Rattle.std.specs.Option.{option_map}
use Rattle.py_tree.specs.ClassRules.{PlainTable}
use Rattle.sf_value.specs.declared.Entry.{Entry}
use Rattle.sf_value.specs.declared.Request.{Request}
use Rattle.program_meaning.specs.ClassTables.{Source}
use Rattle.program_meaning.specs.World.{State}
use Rattle.program_meaning.specs.RequestRun.{run}
use Rattle.program_meaning.specs.Serial.{acts_of, outcomes_of, serial_outcomes, serial_state, is_committed, ids_differ}
use Rattle.keyed_state.specs.declared.Work.{Work}
use Rattle.keyed_state.specs.Works.{after_writes}
use Rattle.commit_order.specs.CommittedSerial.{and_more, asked_at, IsSerial}
use Rattle.engine.specs.Cores.{Core, PendingFits}
use Rattle.engine.specs.Batches.{requests_at, IsSplit, entry_on, batch_entries, after_batch}
use Rattle.engine.specs.Copying.{entry_of, entries_at}
use Rattle.ordered_runs.specs.Vocabulary.{own_outcomes}
use Rattle.ordered_runs.specs.Vocabulary as flights
use Rattle.engine.proofs.BatchLaws.{batch_pending_fits}

module _ (src : Source) (s : State) where
  -- Entries

  pair_there : (requests : List Request) (place : ℕ) → entry_of requests (own_outcomes src s (flights.acts_of requests)) place ≡ option_map (entry_on src s) (slice_get requests place)
  pair_there [] place = refl
  pair_there (r ∷ rs) zero = refl
  pair_there (r ∷ rs) (suc place) = pair_there rs place

  one_more : {S T : Type 0} (f : S → T) (o : Option S) (xs : List S) → cons_option (option_map f o) (over f xs) ≡ over f (cons_option o xs)
  one_more f None xs = refl
  one_more f (Some x) xs = refl

  pub made_entries : (requests : List Request) (places : List ℕ) → entries_at requests (own_outcomes src s (flights.acts_of requests)) places ≡ over (entry_on src s) (requests_at requests places)
  made_entries requests [] = refl
  made_entries requests (place ∷ places) =
      (λ i. cons_option (pair_there requests place i) (made_entries requests places i))
      ∙ one_more (entry_on src s) (slice_get requests place) (requests_at requests places)

  -- What they ask, and come to

  act_there : (requests : List Request) (place : ℕ) → slice_get (flights.acts_of requests) place ≡ option_map (λ r. r.act) (slice_get requests place)
  act_there [] place = refl
  act_there (r ∷ rs) zero = refl
  act_there (r ∷ rs) (suc place) = act_there rs place

  one_act : (o : Option Request) (rs : List Request) → and_more (option_map (λ r. r.act) o) (flights.acts_of rs) ≡ flights.acts_of (cons_option o rs)
  one_act None rs = refl
  one_act (Some r) rs = refl

  asked_is : (requests : List Request) (places : List ℕ) → asked_at (flights.acts_of requests) places ≡ flights.acts_of (requests_at requests places)
  unfolding asked_at
  asked_is requests [] = refl
  asked_is requests (place ∷ places) = (λ i. and_more (act_there requests place i) (asked_is requests places i)) ∙ one_act (slice_get requests place) (requests_at requests places)

  entry_acts : (rs : List Request) → acts_of (over (entry_on src s) rs) ≡ flights.acts_of rs
  entry_acts [] = refl
  entry_acts (r ∷ rs) = ap (λ l. r.act ∷ l) (entry_acts rs)

  entry_outcomes : (rs : List Request) → outcomes_of (over (entry_on src s) rs) ≡ own_outcomes src s (flights.acts_of rs)
  entry_outcomes [] = refl
  entry_outcomes (r ∷ rs) = ap (λ l. (run src s r.act).outcome ∷ l) (entry_outcomes rs)

  asked_of_entries : (requests : List Request) (places : List ℕ) → asked_at (flights.acts_of requests) places ≡ acts_of (over (entry_on src s) (requests_at requests places))
  asked_of_entries requests places = asked_is requests places ∙ sym (entry_acts (requests_at requests places))

  module _ (requests : List Request) (works : List Work) (places : List ℕ) (serial : IsSerial src s (flights.acts_of requests) works places) where
    abbrev entries : List Entry
    entries = over (entry_on src s) (requests_at requests places)

    pub serial_entries : outcomes_of entries ≡ serial_outcomes src s (acts_of entries)
    serial_entries =
        entry_outcomes (requests_at requests places)
        ∙ ap (own_outcomes src s) (sym (asked_is requests places))
        ∙ sym serial.outcomes
        ∙ ap (serial_outcomes src s) (asked_of_entries requests places)

    pub serial_writes : after_writes s works places ≡ serial_state src s (acts_of entries)
    serial_writes = sym serial.state ∙ ap (serial_state src s) (asked_of_entries requests places)

-- Ids

pub front_distinct : (xs ys : List (List ℕ)) → IsDistinct bytes_eq (xs ++ ys) → IsDistinct bytes_eq xs
unfolding IsDistinct
front_distinct [] ys apart = tt
front_distinct (x ∷ xs) ys apart = (front xs apart.0, front_distinct xs ys apart.1)
  where
    front : (zs : List (List ℕ)) → AllByRecursion (λ y. bytes_eq x y ≡ false) (zs ++ ys) → AllByRecursion (λ y. bytes_eq x y ≡ false) zs
    front [] all = tt
    front (z ∷ zs) all = (all.0, front zs all.1)

not_among : (id : List ℕ) (es : List Entry) → AllByRecursion (λ y. bytes_eq id y ≡ false) (over (λ (e : Entry). e.request.id) es) → is_committed es id ≡ false
not_among id [] all = refl
not_among id (e ∷ es) all = λ i. all.0 i || not_among id es all.1 i

pub ids_from_distinct : (es : List Entry) → IsDistinct bytes_eq (over (λ (e : Entry). e.request.id) es) → ids_differ es ≡ true
unfolding IsDistinct
ids_from_distinct [] apart = refl
ids_from_distinct (e ∷ es) apart = (λ i. not (not_among e.request.id es apart.0 i) && ids_differ es) ∙ ids_from_distinct es apart.1

pub batch_ids : (src : Source) (core : Core) (committed : List ℕ) (tables : List PlainTable) → IsSplit core committed → PendingFits tables core → ids_differ (core.history ++ batch_entries src core committed) ≡ true
batch_ids src core committed tables split fits =
    let after = batch_pending_fits src core committed split tables fits in
    ids_from_distinct (core.history ++ batch_entries src core committed)
    (front_distinct (over (λ (e : Entry). e.request.id) (core.history ++ batch_entries src core committed)) (over (λ (r : Request). r.id) (after_batch src core committed).pending) after.ids)
