-- The record of a plan, run again, leaves the core that its commit does.
use Rattle.std.proofs.Common.{◌≡◌, ℕ, zero, suc, ◌-◌, ◌≤◌, List, [], ◌∷◌, ◌++◌, map as over, drop, length, refl, sym, ap, ◌∙◌, subst, arith}
use Rattle.std.specs.Prelude.{bytes_eq}
use Rattle.std.specs.List.{AllByRecursion, IsDistinct, range_with_len}
use Rattle.std.proofs.lemmas.List.{length-append, take-append-drop}
use Rattle.std.proofs.lemmas.List.FromFn.{length-range_with_len}
use Rattle.std.proofs.lemmas.List.Sorted.{length_permutation}
use Rattle.sf_value.specs.declared.Entry.{Entry}
use Rattle.sf_value.specs.declared.Request.{Request}
use Rattle.program_meaning.specs.ClassTables.{Source}
use Rattle.program_meaning.specs.World.{State}
use Rattle.program_meaning.specs.RequestRun.{run}
use Rattle.program_meaning.specs.Serial.{acts_of, outcomes_of, serial_outcomes, serial_state}
use Rattle.request_history.specs.SoundHistory.{RequestFits}
use Rattle.keyed_state.specs.Works.{are_places}
use Rattle.ordered_runs.specs.Vocabulary as flights
use Rattle.kept_parts.proofs.SplitLaws.{part_places}
use Rattle.engine.specs.declared.engine.Engine.{Engine}
use Rattle.engine.specs.declared.planned.Planned.{Planned}
use Rattle.engine.specs.Cores.{Core, ids_of, CoreFits}
use Rattle.engine.specs.EngineViews.{core_of, source_of, tables_of, fresh_of}
use Rattle.engine.specs.Batches.{requests_at, other_places, entry_on, batch_entries, after_batch}
use Rattle.engine.specs.Replays.{with_news, settled, listed, serial_entries, replayed}
use Rattle.engine.specs.Plans.{IsPlanOf}
use Rattle.engine.specs.PlanReplays.{ReplaysPlan, PlansReplay}
use Rattle.engine.proofs.ReplayLaws.{entry_outcomes}

-- Entries with the same requests and the same outcomes

same_entries : (es fs : List Entry) → over (λ (e : Entry). e.request) es ≡ over (λ (e : Entry). e.request) fs → outcomes_of es ≡ outcomes_of fs → es ≡ fs
same_entries [] [] requests outcomes = refl
same_entries [] (f ∷ fs) requests outcomes = absurd (omega (arith, ap length requests))
same_entries (e ∷ es) [] requests outcomes = absurd (omega (arith, ap length requests))
same_entries (e ∷ es) (f ∷ fs) requests outcomes =
    let r : e.request ≡ f.request = ap (λ l. head_or e.request l) requests in
    let o : e.outcome ≡ f.outcome = ap (λ l. head_or e.outcome l) outcomes in
    λ i. record { request = r i; outcome = o i } ∷ same_entries es fs (ap (drop 1) requests) (ap (drop 1) outcomes) i
  where
    head_or : {A : Type 0} → A → List A → A
    head_or d [] = d
    head_or d (x ∷ xs) = x

module _ (src : Source) where
  on_requests : (rs : List Request) (s : State) → over (λ (e : Entry). e.request) (over (entry_on src s) rs) ≡ rs
  on_requests [] s = refl
  on_requests (r ∷ rs) s = ap (λ l. r ∷ l) (on_requests rs s)

  on_acts : (rs : List Request) (s : State) → acts_of (over (entry_on src s) rs) ≡ flights.acts_of rs
  on_acts [] s = refl
  on_acts (r ∷ rs) s = ap (λ l. r.act ∷ l) (on_acts rs s)

  after_requests : (rs : List Request) (s : State) → over (λ (e : Entry). e.request) (serial_entries src s rs) ≡ rs
  after_requests [] s = refl
  after_requests (r ∷ rs) s = ap (λ l. r ∷ l) (after_requests rs (run src s r.act).state)

  -- where each comes to the same by itself and one after another, the entries are the same
  same_both_ways : (rs : List Request) (s : State) → outcomes_of (over (entry_on src s) rs) ≡ serial_outcomes src s (acts_of (over (entry_on src s) rs)) → serial_entries src s rs ≡ over (entry_on src s) rs
  same_both_ways rs s same =
      same_entries (serial_entries src s rs) (over (entry_on src s) rs) (after_requests rs s ∙ sym (on_requests rs s))
      (entry_outcomes src rs s ∙ ap (serial_outcomes src s) (sym (on_acts rs s)) ∙ sym same)

all_behind : (P : Request → Type 0) (n : ℕ) (rs : List Request) → AllByRecursion P rs → AllByRecursion P (drop n rs)
all_behind P zero rs all = all
all_behind P (suc n) [] all = tt
all_behind P (suc n) (r ∷ rs) all = all_behind P n rs all.1

module _ (e : Engine) (p : Planned) (plan : IsPlanOf e p) where
  abbrev core : Core
  core = core_of e

  abbrev before : Core
  before = settled core (fresh_of e)

  pending_is : before.pending ++ p.batch.news ≡ core.pending
  pending_is = ap (λ l. before.pending ++ l) plan.told.news ∙ take-append-drop (length core.pending - fresh_of e) core.pending

  core_is : with_news before p.batch ≡ core
  core_is = λ i. record { history = core.history; state = core.state; pending = pending_is i }

  listed_is : listed before p.batch ≡ requests_at core.pending p.batch.committed
  listed_is = ap (λ l. requests_at l p.batch.committed) pending_is

  same : outcomes_of (batch_entries (source_of e) core p.batch.committed) ≡ serial_outcomes (source_of e) core.state (acts_of (batch_entries (source_of e) core p.batch.committed))
  same = subst (λ es. outcomes_of es ≡ serial_outcomes (source_of e) core.state (acts_of es)) plan.made.entries plan.serial.outcomes

  entries_are : serial_entries (source_of e) core.state (listed before p.batch) ≡ batch_entries (source_of e) core p.batch.committed
  entries_are = ap (serial_entries (source_of e) core.state) listed_is ∙ same_both_ways (source_of e) (requests_at core.pending p.batch.committed) core.state same

  state_is : serial_state (source_of e) core.state (flights.acts_of (listed before p.batch)) ≡ serial_state (source_of e) core.state (acts_of (batch_entries (source_of e) core p.batch.committed))
  state_is = ap (serial_state (source_of e) core.state) (ap flights.acts_of listed_is ∙ sym (on_acts (source_of e) (requests_at core.pending p.batch.committed) core.state))

  replayed_is : replayed (source_of e) before p.batch ≡ after_batch (source_of e) core p.batch.committed
  replayed_is = λ i. record {
    history = core.history ++ entries_are i;
    state = state_is i;
    pending = requests_at (pending_is i) (other_places (length (pending_is i)) p.batch.committed);
  }

  few_committed : length p.batch.committed ≤ length core.pending
  few_committed =
      let all = length_permutation (range_with_len 0 (length core.pending)) (p.batch.committed ++ other_places (length core.pending) p.batch.committed) plan.made.once ∙ length-range_with_len 0 (length core.pending) in
      let both = length-append p.batch.committed (other_places (length core.pending) p.batch.committed) in
      omega (arith, all, both)

  news_fit : CoreFits (tables_of e) core → AllByRecursion (RequestFits (tables_of e)) p.batch.news
  news_fit fits = subst (AllByRecursion (RequestFits (tables_of e))) (sym plan.told.news) (all_behind (RequestFits (tables_of e)) (length core.pending - fresh_of e) core.pending fits.pending.requests)

  pub plan_replays : CoreFits (tables_of e) core → 1 ≤ length p.batch.committed → ReplaysPlan e p
  plan_replays fits some = record {
    fits = record {
      requests = news_fit fits;
      ids = subst (λ (c : Core). IsDistinct bytes_eq (ids_of c)) (sym core_is) fits.pending.ids;
      list = record {
        few = subst (λ (c : Core). length c.pending ≤ 256) (sym core_is) e.few;
        some = some;
        once = ap (λ l. are_places (length l) p.batch.committed) pending_is ∙ part_places (length core.pending) p.batch.committed (other_places (length core.pending) p.batch.committed) plan.made.once;
        places = omega (arith, few_committed, plan.room.places);
      };
    };
    core = replayed_is;
  }

pub plans_replay : PlansReplay
plans_replay e p plan fits some = plan_replays e p plan fits some
