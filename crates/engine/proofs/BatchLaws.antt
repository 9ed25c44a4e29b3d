-- A core that fits does so behind a batch, and it goes on serially to the one behind it.
use Rattle.std.proofs.Common.{◌≡◌, ℕ, true, List, [], ◌∷◌, ◌++◌, map as over, length, get_or, drop, refl, sym, ap, ◌∙◌, subst, append_assoc, append-nil}
use Rattle.std.specs.Prelude.{bytes_eq}
use Rattle.std.specs.List.{AllByRecursion}
use Rattle.std.specs.List.Sorted.{IsPermutation}
use Rattle.std.proofs.lemmas.Cmp.{nat_list_eq_equiv}
use Rattle.std.proofs.lemmas.List.{map-append}
use Rattle.std.proofs.lemmas.List.Sorted.{IsPermutation-map, IsPermutation-append_right}
use Rattle.std.proofs.lemmas.Map.Keys.{IsDistinct-IsPermutation}
use Rattle.py_tree.specs.ClassRules.{PlainTable, tables_of}
use Rattle.py_tree.specs.PlainProgram.{PlainProgram}
use Rattle.sf_value.specs.declared.Entry.{Entry}
use Rattle.sf_value.specs.declared.Request.{Request}
use Rattle.program_meaning.specs.ClassTables.{Source}
use Rattle.program_meaning.specs.World.{State}
use Rattle.program_meaning.specs.RequestRun.{run}
use Rattle.program_meaning.specs.Serial.{IsSound, acts_of, outcomes_of, serial_outcomes, serial_state, ids_differ}
use Rattle.program_meaning.specs.Fits.{StateFits}
use Rattle.program_meaning.specs.NothingGoesWrong.{IsKnownAccepted}
use Rattle.program_meaning.proofs.SerialLaws.{IsSound-more}
use Rattle.program_meaning.proofs.Soundness.{runs_fit}
use Rattle.request_history.specs.SoundHistory.{RequestFits, RequestsFit, EntriesFit}
use Rattle.request_history.proofs.IdLaws.{new_among}
use Rattle.engine.specs.Cores.{Core, ids_of, PendingFits, CoreFits}
use Rattle.engine.specs.Growth.{GoesOnSerially}
use Rattle.engine.specs.Batches.{requests_at, other_places, IsSplit, entry_on, batch_entries, after_batch}
use Rattle.engine.proofs.PlaceLaws.{requests_once, each_at}

-- A serial run grows by a batch

module _ (src : Source) where
  first_of_run : (s : State) (e : Entry) (es : List Entry) → outcomes_of (e ∷ es) ≡ serial_outcomes src s (acts_of (e ∷ es))
      → (e.outcome ≡ (run src s e.request.act).outcome) × (outcomes_of es ≡ serial_outcomes src (run src s e.request.act).state (acts_of es))
  unfolding serial_outcomes
  first_of_run s e es same = (ap (λ os. get_or os 0 e.outcome) same, ap (drop 1) same)

  pub entries_sound : (es history : List Entry) (s : State) → IsSound src (record { history = history; state = s }) → outcomes_of es ≡ serial_outcomes src s (acts_of es) → ids_differ (history ++ es) ≡ true
      → IsSound src (record { history = history ++ es; state = serial_state src s (acts_of es) })
  unfolding serial_state
  entries_sound [] history s sound same ids = subst (λ h. IsSound src (record { history = h; state = s })) (sym (append-nil history)) sound
  entries_sound (e ∷ es) history s sound same ids =
      let first = first_of_run s e es same in
      let more = IsSound-more src (record { history = history; state = s }) e sound (new_among history e es ids) first.0 in
      subst (λ h. IsSound src (record { history = h; state = serial_state src (run src s e.request.act).state (acts_of es) })) (append_assoc history (e ∷ []) es)
      (entries_sound es (history ++ e ∷ []) (run src s e.request.act).state more first.1 (ap ids_differ (append_assoc history (e ∷ []) es) ∙ ids))

-- What fits

requests_fit : (tables : List PlainTable) (src : Source) (s : State) (rs : List Request) → AllByRecursion (RequestFits tables) rs → RequestsFit tables (over (entry_on src s) rs)
requests_fit tables src s [] all = tt
requests_fit tables src s (r ∷ rs) all = (all.0, requests_fit tables src s rs all.1)

ids_of_entries : (src : Source) (s : State) (rs : List Request) → over (λ (e : Entry). e.request.id) (over (entry_on src s) rs) ≡ over (λ (r : Request). r.id) rs
ids_of_entries src s [] = refl
ids_of_entries src s (r ∷ rs) = ap (λ l. r.id ∷ l) (ids_of_entries src s rs)

module _ (src : Source) (core : Core) (committed : List ℕ) (split : IsSplit core committed) where
  abbrev carried : List ℕ
  carried = other_places (length core.pending) committed

  abbrev history_ids : List (List ℕ)
  history_ids = over (λ (e : Entry). e.request.id) core.history

  abbrev ids : List Request → List (List ℕ)
  ids rs = over (λ (r : Request). r.id) rs

  -- the ids change places
  ids_moved : IsPermutation (ids_of core) (ids_of (after_batch src core committed))
  ids_moved =
      let moved = IsPermutation-map (λ (r : Request). r.id) core.pending (requests_at core.pending committed ++ requests_at core.pending carried) (requests_once core.pending committed carried split) in
      let parted = map-append (λ (r : Request). r.id) (requests_at core.pending committed) (requests_at core.pending carried) in
      let entries = map-append (λ (e : Entry). e.request.id) core.history (batch_entries src core committed) ∙ ap (λ l. history_ids ++ l) (ids_of_entries src core.state (requests_at core.pending committed)) in
      subst (λ l. IsPermutation (ids_of core) l)
      (ap (λ l. history_ids ++ l) parted ∙ sym (append_assoc history_ids (ids (requests_at core.pending committed)) (ids (requests_at core.pending carried))) ∙ ap (λ l. l ++ ids (requests_at core.pending carried)) (sym entries))
      (IsPermutation-append_right history_ids (ids core.pending) (ids (requests_at core.pending committed ++ requests_at core.pending carried)) moved)

  pub batch_pending_fits : (tables : List PlainTable) → PendingFits tables core → PendingFits tables (after_batch src core committed)
  batch_pending_fits tables fits = record {
    requests = each_at (RequestFits tables) core.pending fits.requests carried;
    ids = IsDistinct-IsPermutation bytes_eq nat_list_eq_equiv.symm (ids_of core) (ids_of (after_batch src core committed)) ids_moved fits.ids;
  }

  pub batch_goes_on : outcomes_of (batch_entries src core committed) ≡ serial_outcomes src core.state (acts_of (batch_entries src core committed))
      → GoesOnSerially src core (after_batch src core committed) (batch_entries src core committed)
  batch_goes_on same =
      let tables = tables_of src.names src.program in
      record {
        history = refl;
        outcomes = same;
        state = refl;
        requests = λ fits. requests_fit tables src core.state (requests_at core.pending committed) (each_at (RequestFits tables) core.pending fits.requests committed);
        pending = batch_pending_fits tables;
      }

-- Nothing goes wrong in a batch

module _ (names : List (List ℕ)) (program : PlainProgram) (accepted : IsKnownAccepted names program) where
  abbrev known : Source
  known = record { program = program; names = names }

  abbrev tables : List PlainTable
  tables = tables_of names program

  entries_fit : (s : State) → StateFits tables s → (history : List Entry) (rs : List Request) → EntriesFit tables history → AllByRecursion (RequestFits tables) rs → EntriesFit tables (history ++ over (entry_on known s) rs)
  entries_fit s state [] [] fit all = tt
  entries_fit s state [] (r ∷ rs) fit all = (all.0, (runs_fit names program accepted s r.act state all.0.act).1, entries_fit s state [] rs fit all.1)
  entries_fit s state (e ∷ history) rs fit all = (fit.0, fit.1, entries_fit s state history rs fit.2 all)

  state_fits : (snapshot s : State) → StateFits tables s → (rs : List Request) → AllByRecursion (RequestFits tables) rs → StateFits tables (serial_state known s (acts_of (over (entry_on known snapshot) rs)))
  unfolding serial_state
  state_fits snapshot s state [] all = state
  state_fits snapshot s state (r ∷ rs) all = state_fits snapshot (run known s r.act).state (runs_fit names program accepted s r.act state all.0.act).0 rs all.1

  pub batch_fits : (core : Core) (committed : List ℕ) → IsSplit core committed → CoreFits tables core → CoreFits tables (after_batch known core committed)
  batch_fits core committed split fits =
      let requests = each_at (RequestFits tables) core.pending fits.pending.requests committed in
      record {
        entries = entries_fit core.state fits.state core.history (requests_at core.pending committed) fits.entries requests;
        state = state_fits core.state core.state fits.state (requests_at core.pending committed) requests;
        pending = batch_pending_fits known core committed split tables fits.pending;
      }
