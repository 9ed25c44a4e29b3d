-- A core that grows serially: it is sound where the one was that it grew from, and it grows from that in two parts.
use Rattle.std.proofs.Common.{◌≡◌, List, [], ◌∷◌, ◌++◌, map as over, true, refl, sym, ap, ◌∙◌, subst, append_assoc, append-nil}
use Rattle.std.proofs.lemmas.List.{map-append}
use Rattle.py_tree.specs.ClassRules.{PlainTable, tables_of}
use Rattle.sf_value.specs.declared.Act.{Act}
use Rattle.sf_value.specs.declared.Entry.{Entry}
use Rattle.sf_value.specs.declared.Request.{Request}
use Rattle.program_meaning.specs.ClassTables.{Source}
use Rattle.program_meaning.specs.World.{State}
use Rattle.program_meaning.specs.RequestRun.{run}
use Rattle.program_meaning.specs.Serial.{IsSound, acts_of, serial_outcomes, serial_state, ids_differ}
use Rattle.request_history.specs.SoundHistory.{RequestsFit}
use Rattle.engine.specs.Cores.{Core, PendingFits, IsSoundCore}
use Rattle.engine.specs.Growth.{GoesOnSerially, GrowsSerially}
use Rattle.engine.proofs.BatchLaws.{entries_sound}
use Rattle.engine.proofs.MadeLaws.{front_distinct, ids_from_distinct}

requests-append : (tables : List PlainTable) (xs ys : List Entry) → RequestsFit tables xs → RequestsFit tables ys → RequestsFit tables (xs ++ ys)
requests-append tables [] ys first later = later
requests-append tables (x ∷ xs) ys first later = (first.0, requests-append tables xs ys first.1 later)

-- the ids of the entries differ where what waits fits
ids_apart : (tables : List PlainTable) (core : Core) → PendingFits tables core → ids_differ core.history ≡ true
ids_apart tables core fits =
    ids_from_distinct core.history (front_distinct (over (λ (e : Entry). e.request.id) core.history) (over (λ (r : Request). r.id) core.pending) fits.ids)

module _ (src : Source) where
  abbrev tables : List PlainTable
  tables = tables_of src.names src.program

  -- Requests run one after another, in two parts

  outcomes-append : (xs ys : List Act) (s : State) → serial_outcomes src s (xs ++ ys) ≡ serial_outcomes src s xs ++ serial_outcomes src (serial_state src s xs) ys
  unfolding serial_outcomes serial_state
  outcomes-append [] ys s = refl
  outcomes-append (x ∷ xs) ys s = ap (λ l. (run src s x).outcome ∷ l) (outcomes-append xs ys (run src s x).state)

  state-append : (xs ys : List Act) (s : State) → serial_state src s (xs ++ ys) ≡ serial_state src (serial_state src s xs) ys
  unfolding serial_state
  state-append [] ys s = refl
  state-append (x ∷ xs) ys s = state-append xs ys (run src s x).state

  no_outcomes : (s : State) → serial_outcomes src s [] ≡ []
  unfolding serial_outcomes
  no_outcomes s = refl

  no_acts : (s : State) → serial_state src s [] ≡ s
  unfolding serial_state
  no_acts s = refl

  -- Going on

  pub goes_none : (old new : Core) → new.history ≡ old.history → new.state ≡ old.state → (PendingFits tables old → PendingFits tables new) → GoesOnSerially src old new []
  goes_none old new history state pending = record {
    history = history ∙ sym (append-nil old.history);
    outcomes = sym (no_outcomes old.state);
    state = state ∙ sym (no_acts old.state);
    requests = λ fits. tt;
    pending = pending;
  }

  pub goes_then : (old middle new : Core) (xs ys : List Entry) → GoesOnSerially src old middle xs → GoesOnSerially src middle new ys → GoesOnSerially src old new (xs ++ ys)
  goes_then old middle new xs ys first later = record {
    history = later.history ∙ ap (λ history. history ++ ys) first.history ∙ append_assoc old.history xs ys;
    outcomes =
        map-append (λ (e : Entry). e.outcome) xs ys
        ∙ (λ i. first.outcomes i ++ (later.outcomes ∙ ap (λ state. serial_outcomes src state (acts_of ys)) first.state) i)
        ∙ sym (outcomes-append (acts_of xs) (acts_of ys) old.state)
        ∙ ap (serial_outcomes src old.state) (sym (map-append (λ (e : Entry). e.request.act) xs ys));
    state =
        later.state
        ∙ ap (λ state. serial_state src state (acts_of ys)) first.state
        ∙ sym (state-append (acts_of xs) (acts_of ys) old.state)
        ∙ ap (serial_state src old.state) (sym (map-append (λ (e : Entry). e.request.act) xs ys));
    requests = λ fits. requests-append tables xs ys (first.requests fits) (later.requests (first.pending fits));
    pending = λ fits. later.pending (first.pending fits);
  }

  pub goes_on_sound : (old new : Core) (added : List Entry) → IsSoundCore src old → GoesOnSerially src old new added → IsSoundCore src new
  goes_on_sound old new added sound goes =
      let pending = goes.pending sound.pending in
      record {
        committed = record {
          run = subst (IsSound src) (λ i. record { history = sym goes.history i; state = sym goes.state i })
              (entries_sound src added old.history old.state sound.committed.run goes.outcomes (ap ids_differ (sym goes.history) ∙ ids_apart tables new pending));
          requests = subst (RequestsFit tables) (sym goes.history) (requests-append tables old.history added sound.committed.requests (goes.requests sound.pending));
        };
        pending = pending;
      }

  -- Growing

  pub grows_same : (core : Core) → GrowsSerially src core core
  grows_same core = record { added = []; goes_on = goes_none core core refl refl (λ fits. fits) }

  pub grows_then : (old middle new : Core) → GrowsSerially src old middle → GrowsSerially src middle new → GrowsSerially src old new
  grows_then old middle new first later = record { added = first.added ++ later.added; goes_on = goes_then old middle new first.added later.added first.goes_on later.goes_on }

  pub grows_sound : (old new : Core) → IsSoundCore src old → GrowsSerially src old new → IsSoundCore src new
  grows_sound old new sound grows = goes_on_sound old new grows.added sound grows.goes_on
