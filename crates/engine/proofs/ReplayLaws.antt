-- A batch of a log that runs again: what joins the core, and that the core behind it fits, and is grown serially.
use Rattle.std.proofs.Common.{◌≡◌, ℕ, suc, ◌+◌, ◌≤◌, Bool, true, not, ◌&&◌, ◌||◌, List, [], ◌∷◌, ◌++◌, map as over, Option, Some, None, length, refl, sym, ap, ◌∙◌, subst, arith, append_assoc}
use Rattle.std.specs.Prelude.{bytes_eq, slice_get, filter_map}
use Rattle.std.specs.List.{list_any, AllByRecursion, IsDistinct, range_with_len, cons_option}
use Rattle.std.proofs.lemmas.List.{map-append, length-append}
use Rattle.py_tree.specs.ClassRules.{PlainTable, tables_of}
use Rattle.py_tree.specs.PlainProgram.{PlainProgram}
use Rattle.sf_value.specs.declared.BatchRecord.{BatchRecord}
use Rattle.sf_value.specs.declared.Entry.{Entry}
use Rattle.sf_value.specs.declared.Outcome.{Outcome}
use Rattle.sf_value.specs.declared.Request.{Request}
use Rattle.program_meaning.specs.ClassTables.{Source}
use Rattle.program_meaning.specs.World.{State}
use Rattle.program_meaning.specs.RequestRun.{run}
use Rattle.program_meaning.specs.Serial.{acts_of, outcomes_of, serial_outcomes, serial_state, is_committed, ids_differ}
use Rattle.program_meaning.specs.Fits.{StateFits}
use Rattle.program_meaning.specs.NothingGoesWrong.{IsKnownAccepted}
use Rattle.program_meaning.proofs.Soundness.{runs_fit}
use Rattle.request_history.specs.SoundHistory.{RequestFits, RequestsFit, EntriesFit}
use Rattle.keyed_state.specs.Works.{are_places}
use Rattle.ordered_runs.specs.Vocabulary as flights
use Rattle.kept_parts.specs.Ids.{entry_ids, request_ids}
use Rattle.kept_parts.proofs.SplitLaws.{parted}
use Rattle.engine.specs.Cores.{Core, PendingFits, CoreFits}
use Rattle.engine.specs.Growth.{GrowsSerially}
use Rattle.engine.specs.Batches.{requests_at, other_places, IsSplit, entry_on, batch_entries}
use Rattle.engine.specs.Copying.{entry_of, entries_at}
use Rattle.engine.specs.declared.replaying.Replay.{Replay}
use Rattle.engine.specs.Moves.{moved, CanMove}
use Rattle.engine.specs.RanReplays.{HasRunAgain}
use Rattle.engine.specs.Replays.{with_news, listed, serial_entries, replayed, ListFits, BatchFits}
use Rattle.engine.proofs.PlaceLaws.{count_once, each_at}
use Rattle.engine.proofs.BatchLaws.{batch_pending_fits}
use Rattle.engine.proofs.MadeLaws.{batch_ids}

-- Entries made of requests and of what they came to, place by place

entry_there : (front : List Request) (r : Request) (rs : List Request) (came : List Outcome) (o : Outcome) (os : List Outcome) → length front ≡ length came → entry_of (front ++ r ∷ rs) (came ++ o ∷ os) (length front) ≡ Some (record { request = r; outcome = o })
entry_there [] r rs [] o os same = refl
entry_there [] r rs (p ∷ came) o os same = absurd (omega (arith, same))
entry_there (q ∷ front) r rs [] o os same = absurd (omega (arith, same))
entry_there (q ∷ front) r rs (p ∷ came) o os same = entry_there front r rs came o os (omega (arith, same))

module _ (src : Source) where
  entries_from : (front : List Request) (came : List Outcome) (n : ℕ) (rs : List Request) (s : State) → n ≡ length front → length front ≡ length came
      → filter_map (entry_of (front ++ rs) (came ++ serial_outcomes src s (flights.acts_of rs))) (range_with_len n (length rs)) ≡ serial_entries src s rs
  unfolding serial_outcomes
  entries_from front came n [] s is same = refl
  entries_from front came n (r ∷ rs) s is same =
      let o = (run src s r.act).outcome in
      let after = (run src s r.act).state in
      let next : n + 1 ≡ length (front ++ r ∷ []) = omega (arith, is, length-append front (r ∷ [])) in
      let also : length (front ++ r ∷ []) ≡ length (came ++ o ∷ []) = omega (arith, same, length-append front (r ∷ []), length-append came (o ∷ [])) in
      (λ i. cons_option (entry_of (front ++ r ∷ rs) (came ++ o ∷ serial_outcomes src after (flights.acts_of rs)) (is i))
      (filter_map (entry_of (sym (append_assoc front (r ∷ []) rs) i) (sym (append_assoc came (o ∷ []) (serial_outcomes src after (flights.acts_of rs))) i)) (range_with_len (n + 1) (length rs))))
      ∙ (λ i. cons_option (entry_there front r rs came o (serial_outcomes src after (flights.acts_of rs)) same i) (entries_from (front ++ r ∷ []) (came ++ o ∷ []) (n + 1) rs after next also i))

  pub entries_in_order : (rs : List Request) (s : State) → entries_at rs (serial_outcomes src s (flights.acts_of rs)) (range_with_len 0 (length rs)) ≡ serial_entries src s rs
  entries_in_order rs s = entries_from [] [] 0 rs s refl refl

  -- What they ask, and come to

  pub entry_acts : (rs : List Request) (s : State) → acts_of (serial_entries src s rs) ≡ flights.acts_of rs
  entry_acts [] s = refl
  entry_acts (r ∷ rs) s = ap (λ l. r.act ∷ l) (entry_acts rs (run src s r.act).state)

  pub entry_outcomes : (rs : List Request) (s : State) → outcomes_of (serial_entries src s rs) ≡ serial_outcomes src s (flights.acts_of rs)
  unfolding serial_outcomes
  entry_outcomes [] s = refl
  entry_outcomes (r ∷ rs) s = ap (λ l. (run src s r.act).outcome ∷ l) (entry_outcomes rs (run src s r.act).state)

  ids_stay : (rs : List Request) (s t : State) → over (λ (e : Entry). e.request.id) (over (entry_on src t) rs) ≡ over (λ (e : Entry). e.request.id) (serial_entries src s rs)
  ids_stay [] s t = refl
  ids_stay (r ∷ rs) s t = ap (λ l. r.id ∷ l) (ids_stay rs (run src s r.act).state t)

  pub entries_count : (rs : List Request) (s : State) → length (serial_entries src s rs) ≡ length rs
  entries_count [] s = refl
  entries_count (r ∷ rs) s = ap (λ n. suc n) (entries_count rs (run src s r.act).state)

  requests_fit : (tables : List PlainTable) (rs : List Request) (s : State) → AllByRecursion (RequestFits tables) rs → RequestsFit tables (serial_entries src s rs)
  requests_fit tables [] s all = tt
  requests_fit tables (r ∷ rs) s all = (all.0, requests_fit tables rs (run src s r.act).state all.1)

-- Ids

-- whether ids differ
abbrev all_differ : List (List ℕ) → Bool
all_differ [] = true
all_differ (id ∷ ids) = not (list_any (bytes_eq id) ids) && all_differ ids

by_ids : (es : List Entry) → ids_differ es ≡ all_differ (over (λ (e : Entry). e.request.id) es)
by_ids [] = refl
by_ids (e ∷ es) = λ i. not (among es i) && by_ids es i
  where
    among : (xs : List Entry) → is_committed xs e.request.id ≡ list_any (bytes_eq e.request.id) (over (λ (x : Entry). x.request.id) xs)
    among [] = refl
    among (x ∷ xs) = ap (λ b. bytes_eq e.request.id x.request.id || b) (among xs)

-- What waits

all_joined : (tables : List PlainTable) (rs news : List Request) → AllByRecursion (RequestFits tables) rs → AllByRecursion (RequestFits tables) news → AllByRecursion (RequestFits tables) (rs ++ news)
all_joined tables [] news all more = more
all_joined tables (r ∷ rs) news all more = (all.0, all_joined tables rs news all.1 more)

pub waiting_fit : (tables : List PlainTable) (core : Core) (news : List Request) → CoreFits tables core → AllByRecursion (RequestFits tables) news → AllByRecursion (RequestFits tables) (core.pending ++ news)
waiting_fit tables core news fits all = all_joined tables core.pending news fits.pending.requests all

module _ (tables : List PlainTable) (core : Core) (batch : BatchRecord) (fits : PendingFits tables core) (good : BatchFits tables core batch) where
  news_fit : PendingFits tables (with_news core batch)
  news_fit = record { requests = all_joined tables core.pending batch.news fits.requests good.requests; ids = good.ids }

  split : IsSplit (with_news core batch) batch.committed
  split = parted (length (with_news core batch).pending) batch.committed good.list.once

  listed_fit : AllByRecursion (RequestFits tables) (listed core batch)
  listed_fit = each_at (RequestFits tables) (with_news core batch).pending news_fit.requests batch.committed

  pub counts : length (listed core batch) + length (requests_at (with_news core batch).pending (other_places (length (with_news core batch).pending) batch.committed)) ≡ length (with_news core batch).pending
  counts = count_once (with_news core batch).pending batch.committed (other_places (length (with_news core batch).pending) batch.committed) split

  module _ (src : Source) where
    same_ids : over (λ (e : Entry). e.request.id) (core.history ++ batch_entries src (with_news core batch) batch.committed) ≡ over (λ (e : Entry). e.request.id) (replayed src core batch).history
    same_ids =
        map-append (λ (e : Entry). e.request.id) core.history (batch_entries src (with_news core batch) batch.committed)
        ∙ ap (λ l. over (λ (e : Entry). e.request.id) core.history ++ l) (ids_stay src (listed core batch) core.state core.state)
        ∙ sym (map-append (λ (e : Entry). e.request.id) core.history (serial_entries src core.state (listed core batch)))

    pub replayed_ids : ids_differ (replayed src core batch).history ≡ true
    replayed_ids =
        by_ids (replayed src core batch).history
        ∙ ap all_differ (sym same_ids)
        ∙ sym (by_ids (core.history ++ batch_entries src (with_news core batch) batch.committed))
        ∙ batch_ids src (with_news core batch) batch.committed tables split news_fit

    pending_fits : PendingFits tables (replayed src core batch)
    pending_fits =
        let after = batch_pending_fits src (with_news core batch) batch.committed split tables news_fit in
        record {
          requests = after.requests;
          ids = subst (λ l. IsDistinct bytes_eq (l ++ over (λ (r : Request). r.id) (replayed src core batch).pending)) same_ids after.ids;
        }

-- The core behind it

module _ (names : List (List ℕ)) (program : PlainProgram) (accepted : IsKnownAccepted names program) where
  abbrev known : Source
  known = record { program = program; names = names }

  abbrev tables : List PlainTable
  tables = tables_of names program

  entries_fit : (history : List Entry) (rs : List Request) (s : State) → StateFits tables s → EntriesFit tables history → AllByRecursion (RequestFits tables) rs → EntriesFit tables (history ++ serial_entries known s rs)
  entries_fit [] [] s state fit all = tt
  entries_fit [] (r ∷ rs) s state fit all = let ran = runs_fit names program accepted s r.act state all.0.act in (all.0, ran.1, entries_fit [] rs (run known s r.act).state ran.0 fit all.1)
  entries_fit (e ∷ history) rs s state fit all = (fit.0, fit.1, entries_fit history rs s state fit.2 all)

  state_fits : (rs : List Request) (s : State) → StateFits tables s → AllByRecursion (RequestFits tables) rs → StateFits tables (serial_state known s (flights.acts_of rs))
  unfolding serial_state
  state_fits [] s state all = state
  state_fits (r ∷ rs) s state all = state_fits rs (run known s r.act).state (runs_fit names program accepted s r.act state all.0.act).0 all.1

  module _ (core : Core) (batch : BatchRecord) (good : BatchFits tables core batch) where
    pub replayed_fits : CoreFits tables core → CoreFits tables (replayed known core batch)
    replayed_fits fits =
        let all = listed_fit tables core batch fits.pending good in
        record {
          entries = entries_fit core.history (listed core batch) core.state fits.state fits.entries all;
          state = state_fits (listed core batch) core.state fits.state all;
          pending = pending_fits tables core batch fits.pending good known;
        }

module _ (src : Source) (core : Core) (batch : BatchRecord) (good : BatchFits (tables_of src.names src.program) core batch) where
  pub replayed_grows : GrowsSerially src core (replayed src core batch)
  replayed_grows =
      let tables = tables_of src.names src.program in
      let acts = entry_acts src (listed core batch) core.state in
      record {
        added = serial_entries src core.state (listed core batch);
        goes_on = record {
          history = refl;
          outcomes = entry_outcomes src (listed core batch) core.state ∙ ap (serial_outcomes src core.state) (sym acts);
          state = ap (serial_state src core.state) (sym acts);
          requests = λ fits. requests_fit src tables (listed core batch) core.state (listed_fit tables core batch fits good);
          pending = λ fits. pending_fits tables core batch fits good src;
        };
      }

-- What ran again joins the core

pub listed_few : (waiting : List Request) (committed : List ℕ) → are_places (length waiting) committed ≡ true → length (requests_at waiting committed) ≤ length waiting
listed_few waiting committed once =
    let count = count_once waiting committed (other_places (length waiting) committed) (parted (length waiting) committed once) in
    omega (arith, count)

-- what a batch that ran again brings can join, and leaves the core that it is to leave
pub record CanJoin (src : Source) (core : Core) (batch : BatchRecord) (r : Replay) : Type 0 where
  pub can : CanMove core r.moves r.places
  pub core_is : moved core r.moves r.places ≡ replayed src core batch

pub can_join : (tables : List PlainTable) (src : Source) (core : Core) (batch : BatchRecord) → CoreFits tables core → BatchFits tables core batch → (r : Replay) → HasRunAgain src core (core.pending ++ batch.news) batch.committed r → CanJoin src core batch r
can_join tables src core batch fits good r ran =
    let counted = counts tables core batch fits.pending good in
    let entries : length r.moves.entries ≡ length (listed core batch) = ap length ran.entries ∙ entries_count src (listed core batch) core.state in
    let carried = ap (λ (c : Core). length c.pending) ran.behind in
    let waiting = good.list.few in
    let places = good.list.places in
    let fewer = filter_map_few (slice_get (core.pending ++ batch.news)) batch.committed in
    record {
      can = record {
        ids = ap (λ es. ids_differ (core.history ++ es)) ran.entries ∙ replayed_ids tables core batch fits.pending good src;
        placed = omega (arith, entries, fewer, places);
        few = omega (arith, carried, counted, waiting);
        there = ran.there;
      };
      core_is = ran.behind;
    }
  where
    filter_map_few : (f : ℕ → Option Request) (places : List ℕ) → length (filter_map f places) ≤ length places
    filter_map_few f [] = omega arith
    filter_map_few f (place ∷ places) = by (f place) (filter_map_few f places)
      where
        by : (o : Option Request) → length (filter_map f places) ≤ length places → length (cons_option o (filter_map f places)) ≤ length (place ∷ places)
        by None later = omega (arith, later)
        by (Some r) later = omega (arith, later)

-- a batch that passed the tests and ran again fits its core, and can join it
pub record CanReplay (tables : List PlainTable) (src : Source) (core : Core) (batch : BatchRecord) (r : Replay) : Type 0 where
  pub good : BatchFits tables core batch
  pub joins : CanJoin src core batch r

pub can_replay : (tables : List PlainTable) (src : Source) (core : Core) (batch : BatchRecord) → CoreFits tables core → AllByRecursion (RequestFits tables) batch.news → ListFits core batch
    → (waiting slice : List Request) → waiting ≡ core.pending ++ batch.news → slice ≡ waiting → IsDistinct bytes_eq (entry_ids core.history ++ request_ids slice)
    → (r : Replay) → HasRunAgain src core waiting batch.committed r → CanReplay tables src core batch r
can_replay tables src core batch fits news list waiting slice is same ids r ran =
    let good : BatchFits tables core batch = record { requests = news; ids = subst (λ l. IsDistinct bytes_eq (entry_ids core.history ++ request_ids l)) (same ∙ is) ids; list = list } in
    record { good = good; joins = can_join tables src core batch fits good r (subst (λ l. HasRunAgain src core l batch.committed r) is ran) }
