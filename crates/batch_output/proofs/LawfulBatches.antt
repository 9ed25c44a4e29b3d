-- A batch of a lawful rule keeps a sound core, and commits a request that waits.
use Rattle.std.proofs.Common.{◌≡◌, ℕ, zero, suc, ◌<◌, ◌≤◌, ◌^◌, true, false, true≢false, ◌||◌, nat_eq, Option, None, Some, List, [], ◌∷◌, ◌++◌, map as over, length, refl, sym, ap, ◌∙◌, subst, arith}
use Rattle.std.specs.List.{list_any, range_with_len, slice_get, cons_option, All}
use Rattle.std.specs.List.Sorted.{IsPermutation}
use Rattle.std.proofs.lemmas.Bool.{ne_eqb}
use Rattle.std.proofs.lemmas.List.{length-map}
use Rattle.std.proofs.lemmas.List.Elements.{All-cons, All-head, All-tail}
use Rattle.std.proofs.lemmas.List.FromFn.{length-range_with_len, get_or-range_with_len}
use Rattle.std.proofs.lemmas.List.Sorted.{All-permutation}
use Rattle.sf_value.specs.declared.Request.{Request}
use Rattle.program_meaning.specs.ClassTables.{Source}
use Rattle.program_meaning.specs.World.{State}
use Rattle.program_meaning.specs.RequestRun.{run}
use Rattle.program_meaning.specs.Serial.{outcomes_of, serial_outcomes}
use Rattle.program_meaning.specs.Serial as serial
use Rattle.serial_order.specs.ConflictFree.{Access, access_of, runs_on, IsConflictFree}
use Rattle.serial_order.proofs.SerialOrder.{conflict_free_serial}
use Rattle.reservations.specs.Accesses.{access_at}
use Rattle.reservations.specs.CommitRules.{Chosen, IsLawful}
use Rattle.engine.specs.Cores.{Core, IsSoundCore}
use Rattle.engine.specs.Growth.{GoesOnSerially}
use Rattle.engine.specs.Vocabulary.{acts_of, own_outcomes}
use Rattle.engine.specs.Batches.{requests_at, other_places, IsSplit, entry_on, batch_entries, after_batch}
use Rattle.engine.specs.RanBatches.{accesses_on}
use Rattle.engine.proofs.PlaceLaws.{count_once}
use Rattle.engine.proofs.CarriedLaws.{carried_are}
use Rattle.engine.proofs.BatchLaws.{batch_goes_on}
use Rattle.engine.proofs.GrowthLaws.{goes_on_sound}
use Rattle.batch_output.specs.BatchOutput.{Limits, committed}
use Rattle.batch_output.specs.SerialBatches.{IsLawfulRule}

-- What each request reads and writes by itself

module _ (src : Source) (s : State) where
  access_on : Request → Access
  access_on r = access_of (run src s r.act)

  each_access : (requests : List Request) → over access_of (runs_on src s (acts_of requests)) ≡ over access_on requests
  unfolding access_on
  each_access [] = refl
  each_access (r ∷ rs) = ap (λ l. access_of (run src s r.act) ∷ l) (each_access rs)

  one_there : (requests : List Request) (place : ℕ) (more : List Request) → place < length requests → over access_on (cons_option (slice_get requests place) more) ≡ access_at (over access_on requests) place ∷ over access_on more
  one_there [] place more within = absurd (omega arith)
  one_there (r ∷ rs) zero more within = refl
  one_there (r ∷ rs) (suc place) more within = one_there rs place more (omega arith)

  accesses_there : (requests : List Request) (places : List ℕ) → All (λ place. place < length requests) places → over (access_at (over access_on requests)) places ≡ over access_on (requests_at requests places)
  accesses_there requests [] within = refl
  accesses_there requests (place ∷ places) within =
      ap (λ l. access_at (over access_on requests) place ∷ l) (accesses_there requests places (All-tail (λ p. p < length requests) place places within))
      ∙ sym (one_there requests place (requests_at requests places) (All-head (λ p. p < length requests) place places within))

  entry_acts : (requests : List Request) → serial.acts_of (over (entry_on src s) requests) ≡ acts_of requests
  entry_acts [] = refl
  entry_acts (r ∷ rs) = ap (λ l. r.act ∷ l) (entry_acts rs)

  entry_outcomes : (requests : List Request) → outcomes_of (over (entry_on src s) requests) ≡ own_outcomes src s (acts_of requests)
  entry_outcomes [] = refl
  entry_outcomes (r ∷ rs) = ap (λ l. (run src s r.act).outcome ∷ l) (entry_outcomes rs)

-- The first of a batch

as_long : (o : Option Request) (rs : List Request) → length rs ≤ length (cons_option o rs)
as_long None rs = omega arith
as_long (Some r) rs = omega arith

first_there : (requests : List Request) (places : List ℕ) → 0 < length requests → list_any (nat_eq 0) places ≡ true → 0 < length (requests_at requests places)
first_there requests [] some h = absurd (true≢false (sym h))
first_there [] (zero ∷ places) some h = absurd (omega arith)
first_there (r ∷ rs) (zero ∷ places) some h = omega arith
first_there requests (suc place ∷ places) some h =
    let other : nat_eq 0 (suc place) ≡ false = ne_eqb 0 (suc place) (λ same. omega (arith, same)) in
    let later : 0 < length (requests_at requests places) = first_there requests places some (sym (ap (λ b. b || list_any (nat_eq 0) places) other) ∙ h) in
    let longer = as_long (slice_get requests (suc place)) (requests_at requests places) in
    omega arith

-- The batch

every_place : (n : ℕ) → All (λ place. place < n) (range_with_len 0 n)
every_place n = λ k d within.
    let count = length-range_with_len 0 n in
    let below : k < n = omega arith in
    let is = get_or-range_with_len 0 n k d below in
    omega arith

all_in_front : (P : ℕ → Type 0) (xs ys : List ℕ) → All P (xs ++ ys) → All P xs
all_in_front P [] ys all = λ k d within. absurd (omega arith)
all_in_front P (x ∷ xs) ys all = All-cons P x xs (All-head P x (xs ++ ys) all) (all_in_front P xs ys (All-tail P x (xs ++ ys) all))

module _ (src : Source) (rule : List Access → Chosen) (limits : Limits) (lawful : IsLawfulRule rule) (core : Core) (few : length core.pending < 2 ^ 32) where
  abbrev chosen : Chosen
  chosen = rule (accesses_on src core)

  as_many : length (accesses_on src core) ≡ length core.pending
  as_many =
      length-map (runs_on src core.state (acts_of core.pending)) access_of
      ∙ length-map (acts_of core.pending) (run src core.state)
      ∙ length-map core.pending (λ (r : Request). r.act)

  is_lawful : IsLawful (accesses_on src core) chosen
  is_lawful = lawful (accesses_on src core) (subst (λ n. n < 2 ^ 32) (sym as_many) few)

  once : IsPermutation (range_with_len 0 (length core.pending)) (chosen.committed ++ chosen.carried)
  once = subst (λ n. IsPermutation (range_with_len 0 n) (chosen.committed ++ chosen.carried)) as_many is_lawful.once

  pub is_split : IsSplit core (committed src rule limits core)
  is_split = subst (λ l. IsPermutation (range_with_len 0 (length core.pending)) (chosen.committed ++ l)) (carried_are (length core.pending) chosen.committed chosen.carried once is_lawful.rises) once

  within : All (λ place. place < length core.pending) chosen.committed
  within = all_in_front (λ place. place < length core.pending) chosen.committed chosen.carried (All-permutation (λ place. place < length core.pending) (range_with_len 0 (length core.pending)) (chosen.committed ++ chosen.carried) once (every_place (length core.pending)))

  committed_accesses : over (access_at (accesses_on src core)) chosen.committed ≡ over access_of (runs_on src core.state (acts_of (requests_at core.pending chosen.committed)))
  committed_accesses =
      ap (λ batch. over (access_at batch) chosen.committed) (each_access src core.state core.pending)
      ∙ accesses_there src core.state core.pending chosen.committed within
      ∙ sym (each_access src core.state (requests_at core.pending chosen.committed))

  serial_outcomes_of_batch : outcomes_of (batch_entries src core chosen.committed) ≡ serial_outcomes src core.state (serial.acts_of (batch_entries src core chosen.committed))
  serial_outcomes_of_batch =
      entry_outcomes src core.state (requests_at core.pending chosen.committed)
      ∙ sym (conflict_free_serial src core.state (acts_of (requests_at core.pending chosen.committed)) (subst IsConflictFree committed_accesses is_lawful.apart)).outcomes
      ∙ ap (serial_outcomes src core.state) (sym (entry_acts src core.state (requests_at core.pending chosen.committed)))

  -- the core behind the batch goes on serially by its entries
  pub batch_goes : GoesOnSerially src core (after_batch src core (committed src rule limits core)) (batch_entries src core (committed src rule limits core))
  batch_goes = batch_goes_on src core chosen.committed is_split serial_outcomes_of_batch

  pub stays_sound : IsSoundCore src core → IsSoundCore src (after_batch src core (committed src rule limits core))
  stays_sound sound =
      goes_on_sound src core (after_batch src core (committed src rule limits core)) (batch_entries src core (committed src rule limits core)) sound batch_goes

  -- fewer wait behind it
  pub fewer_wait : 0 < length core.pending → length (after_batch src core (committed src rule limits core)).pending < length core.pending
  fewer_wait some =
      let first = first_there core.pending chosen.committed some (is_lawful.first (subst (λ n. 0 < n) (sym as_many) some)) in
      let count = count_once core.pending chosen.committed (other_places (length core.pending) chosen.committed) is_split in
      omega arith
