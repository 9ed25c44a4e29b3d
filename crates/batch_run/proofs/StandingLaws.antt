-- What holds from step to step of a run, whatever core it began with: the core fits the program, few requests wait, and it goes on serially.
use Rattle.std.proofs.Common.{◌≡◌, ℕ, ◌+◌, ◌<◌, ◌≤◌, ◌^◌, ◌⊎◌, inl, inr, Bool, true, false, true≢false, not, ◌||◌, List, [], ◌∷◌, ◌++◌, length, if◌then◌else◌, refl, sym, ap, ◌∙◌, subst, append_assoc, append-nil, arith}
use Rattle.std.specs.List.{AllByRecursion}
use Rattle.std.proofs.lemmas.Bool.{ltb-true, leb-false}
use Rattle.std.proofs.lemmas.List.{length-append}
use Rattle.py_tree.specs.ClassRules.{PlainTable, tables_of}
use Rattle.sf_value.specs.declared.Entry.{Entry}
use Rattle.sf_value.specs.declared.Request.{Request}
use Rattle.program_meaning.specs.ClassTables.{Source}
use Rattle.program_meaning.proofs.Soundness.{checked_are_known}
use Rattle.request_json.specs.Actions.{Line, Action, Skip, Refuse, Ask, action_of}
use Rattle.block_step.specs.declared.compiled.Compiled.{Compiled}
use Rattle.block_step.specs.CompiledViews.{compiled_program, compiled_names}
use Rattle.aria_batch.specs.BatchRun.{source_of}
use Rattle.engine.specs.declared.arrival.Arrival.{Arrival}
use Rattle.engine.specs.declared.arrival.Arrival.TheVariants as arrival
use Rattle.engine.specs.Cores.{Core, PendingFits, CoreFits}
use Rattle.engine.specs.Growth.{GoesOnSerially}
use Rattle.engine.specs.Arrivals as engine
use Rattle.engine.specs.Batches.{batch_entries}
use Rattle.engine.specs.RanBatches.{accesses_on}
use Rattle.engine.proofs.ArrivalLaws.{arrival_fits, arrival_pending_fits}
use Rattle.engine.proofs.BatchLaws.{batch_fits}
use Rattle.engine.proofs.GrowthLaws.{goes_none, goes_then}
use Rattle.batch_output.specs.BatchOutput.{Limits, Standing, begun, waits, fills, is_due, taken, with_line, settled, settled_if, has_no_place, committed}
use Rattle.batch_output.proofs.LawfulBatches.{is_split, batch_goes, fewer_wait}
use Rattle.batch_output.proofs.SessionLaws.{at_most_one_more}
use Rattle.batch_session.specs.Vocabulary.{next_core, Step, Answer, RunWaiting, EndsAmong, IsAtNext, move_of, behind, ran_at, standing_after, ran_on, ActionFits, Service}
use Rattle.batch_session.proofs.Vocabulary.{each_joined, line_fits}
use Rattle.batch_run.specs.RunViews.{Rule, run_limits, run_service, rule_of}
use Rattle.batch_run.specs.GrownCores.{TakesWrites, entries_of}
use Rattle.batch_run.specs.declared.running.RunSettings.{RunSettings}
use Rattle.batch_run.proofs.CommittedLaws.{batch_takes_writes}
use Rattle.batch_run.proofs.LastCores.{move_history}
use Rattle.batch_run.proofs.SerialLaws.{lawful}

-- The entries of batches, in two parts

module _ (src : Source) where
  entries-append : (rule : Rule) (xs ys : List Core) → entries_of src rule (xs ++ ys) ≡ entries_of src rule xs ++ entries_of src rule ys
  entries-append rule [] ys = refl
  entries-append rule (core ∷ more) ys =
      ap (λ l. batch_entries src core (rule (accesses_on src core)).committed ++ l) (entries-append rule more ys)
      ∙ sym (append_assoc (batch_entries src core (rule (accesses_on src core)).committed) (entries_of src rule more) (entries_of src rule ys))

-- A request that arrives changes no entity

joined_state : (core : Core) (r : Request) (a : Arrival) → (engine.joined core r a).state ≡ core.state
joined_state core r arrival.New = refl
joined_state core r (arrival.Again place) = refl
joined_state core r arrival.Waiting = refl
joined_state core r arrival.Reused = refl

taken_state : (core : Core) (action : Action) → (taken core action).state ≡ core.state
taken_state core Skip = refl
taken_state core (Refuse cause) = refl
taken_state core (Ask r) = joined_state core r (engine.arrival_of core r)

module _ (compiled : Compiled) (s : RunSettings) (few : s.batch ≤ 256) where
  abbrev src : Source
  src = source_of compiled

  abbrev v : Service
  v = run_service compiled s

  abbrev rule : Rule
  rule = rule_of s

  abbrev limits : Limits
  limits = run_limits s

  abbrev pub tables : List PlainTable
  tables = tables_of (compiled_names compiled) (compiled_program compiled)

  abbrev Goes : Core → Core → List Core → Type 0
  Goes old new ran = GoesOnSerially src old new (entries_of src rule ran)

  move_state : (t : Standing) (step : Step) → (move_of v t step).core.state ≡ t.core.state
  move_state t (Answer line) = taken_state t.core (action_of src line)
  move_state t RunWaiting = refl

  taken_pending : (core : Core) (action : Action) → ActionFits tables action → PendingFits tables core → PendingFits tables (taken core action)
  taken_pending core Skip fit fits = fits
  taken_pending core (Refuse cause) fit fits = fits
  taken_pending core (Ask r) fit fits = arrival_pending_fits tables core r fit fits

  move_pending : (t : Standing) (step : Step) → PendingFits tables t.core → PendingFits tables (move_of v t step).core
  move_pending t (Answer line) fits = taken_pending t.core (action_of src line) (line_fits src line) fits
  move_pending t RunWaiting fits = fits

  -- a step's move commits nothing
  pub goes_moved : (t : Standing) (step : Step) → GoesOnSerially src t.core (move_of v t step).core []
  goes_moved t step = goes_none src t.core (move_of v t step).core (move_history v s.trace t step) (move_state t step) (move_pending t step)

  goes_same : (core : Core) → GoesOnSerially src core core []
  goes_same core = goes_none src core core refl refl (λ fits. fits)

  -- How many wait

  filled_waits : (core : Core) (r : Request) (a : Arrival) → fills src rule limits core a ≡ true → 0 < length (engine.joined core r a).pending
  filled_waits core r arrival.New due = let count = length-append core.pending (r ∷ []) in omega (arith, count)
  filled_waits core r (arrival.Again place) due = absurd (true≢false (sym due))
  filled_waits core r arrival.Waiting due = absurd (true≢false (sym due))
  filled_waits core r arrival.Reused due = absurd (true≢false (sym due))

  due_waits : (core : Core) (action : Action) → is_due src rule limits core action ≡ true → 0 < length (taken core action).pending
  due_waits core Skip due = ltb-true 0 (length core.pending) due
  due_waits core (Refuse cause) due = absurd (true≢false (sym due))
  due_waits core (Ask r) due = filled_waits core r (engine.arrival_of core r) due

  unfilled_few : (core : Core) (r : Request) (a : Arrival) → length core.pending < 256 → fills src rule limits core a ≡ false → length (engine.joined core r a).pending < 256
  unfilled_few core r arrival.New wait undue =
      let below : length core.pending + 1 < s.batch = leb-false s.batch (length core.pending + 1) undue in
      let count = length-append core.pending (r ∷ []) in
      omega (arith, below, count, few)
  unfilled_few core r (arrival.Again place) wait undue = wait
  unfilled_few core r arrival.Waiting wait undue = wait
  unfilled_few core r arrival.Reused wait undue = wait

  undue_few : (core : Core) (action : Action) → length core.pending < 256 → is_due src rule limits core action ≡ false → length (taken core action).pending < 256
  undue_few core Skip wait undue = wait
  undue_few core (Refuse cause) wait undue = wait
  undue_few core (Ask r) wait undue = unfilled_few core r (engine.arrival_of core r) wait undue

  -- What holds of a session between two steps, and what steps do that lead from one core to the next

  pub record Holds (t : Standing) : Type 0 where
    pub fits : CoreFits tables t.core
    pub wait : t.is_full ≡ false → length t.core.pending < 256

  -- a core that a batch runs on
  pub record Runs (core : Core) : Type 0 where
    pub fits : CoreFits tables core
    pub small : length core.pending < 2 ^ 32

  pub record Leads (core : Core) (next : Standing) (ran : List Core) : Type 0 where
    pub holds : Holds next
    pub goes : Goes core next.core ran
    pub each : AllByRecursion Runs ran

  -- a batch, or the end where the history is full
  abbrev by_room : Bool → Core → ℕ → Standing
  by_room full core lines =
      if full then record { core = core; lines = lines; is_full = true } else record { core = next_core rule src core; lines = lines; is_full = false }

  leads_by_room : (full : Bool) (core : Core) (lines : ℕ) → CoreFits tables core → 0 < length core.pending → length core.pending ≤ 256
      → Leads core (by_room full core lines) (if full then [] else core ∷ [])
  leads_by_room true core lines fits some most =
      record { holds = record { fits = fits; wait = λ goes. absurd (true≢false goes) }; goes = goes_same core; each = tt }
  leads_by_room false core lines fits some most =
      let small : length core.pending < 2 ^ 32 = omega (arith, most) in
      let fewer = fewer_wait src rule limits (lawful compiled s few) core small some in
      record {
        holds = record {
          fits = batch_fits (compiled_names compiled) (compiled_program compiled) (checked_are_known compiled.program) core (committed src rule limits core)
              (is_split src rule limits (lawful compiled s few) core small) fits;
          wait = λ goes. omega (arith, fewer, most);
        };
        goes =
            subst (GoesOnSerially src core (next_core rule src core)) (sym (append-nil (batch_entries src core (committed src rule limits core))))
            (batch_goes src rule limits (lawful compiled s few) core small);
        each = (record { fits = fits; small = small }, tt);
      }

  -- a line
  taken_fits : (core : Core) (action : Action) → ActionFits tables action → CoreFits tables core → CoreFits tables (taken core action)
  taken_fits core Skip fit fits = fits
  taken_fits core (Refuse cause) fit fits = fits
  taken_fits core (Ask r) fit fits = arrival_fits tables core r fit fits

  line_leads : (t : Standing) (line : Line) (full due : Bool) → t.is_full ≡ full → is_due src rule limits t.core (action_of src line) ≡ due → Holds t
      → Leads t.core (if full then t else settled_if src rule limits due (with_line src rule limits t (action_of src line)))
      (if full then [] else (if due then (if has_no_place src rule limits (taken t.core (action_of src line)) then [] else taken t.core (action_of src line) ∷ []) else []))
  line_leads t line true due is over h = record { holds = h; goes = goes_same t.core; each = tt }
  line_leads t line false false is undue h =
      let moved : Core = taken t.core (action_of src line) in
      record {
        holds = record {
          fits = taken_fits t.core (action_of src line) (line_fits src line) h.fits;
          wait = λ goes. undue_few t.core (action_of src line) (h.wait is) undue;
        };
        goes = goes_moved t (Answer line);
        each = tt;
      }
  line_leads t line false true is due h =
      let moved : Core = taken t.core (action_of src line) in
      let full : Bool = has_no_place src rule limits moved in
      let more = at_most_one_more t.core (action_of src line) in
      let most : length moved.pending ≤ 256 = omega (arith, more, h.wait is) in
      let next = leads_by_room full moved (t.lines + 1) (taken_fits t.core (action_of src line) (line_fits src line) h.fits) (due_waits t.core (action_of src line) due) most in
      record {
        holds = next.holds;
        goes =
            goes_then src t.core moved (by_room full moved (t.lines + 1)).core [] (entries_of src rule (if full then [] else moved ∷ []))
            (goes_moved t (Answer line)) next.goes;
        each = next.each;
      }

  waiting_leads : (t : Standing) (full some : Bool) → t.is_full ≡ full → waits t.core ≡ some → Holds t
      → Leads t.core (if full || not some then t else settled src rule limits t)
      (if full then [] else (if some then (if has_no_place src rule limits t.core then [] else t.core ∷ []) else []))
  waiting_leads t true some is waiting h = record { holds = h; goes = goes_same t.core; each = tt }
  waiting_leads t false false is waiting h = record { holds = h; goes = goes_same t.core; each = tt }
  waiting_leads t false true is waiting h =
      let below : length t.core.pending < 256 = h.wait is in
      leads_by_room (has_no_place src rule limits t.core) t.core t.lines h.fits (ltb-true 0 (length t.core.pending) waiting) (omega (arith, below))

  pub leads_one : (step : Step) (t : Standing) → Holds t → Leads t.core (behind v t step) (ran_at v t step)
  leads_one (Answer line) t h = line_leads t line t.is_full (is_due src rule limits t.core (action_of src line)) refl refl h
  leads_one RunWaiting t h = waiting_leads t t.is_full (waits t.core) refl refl h

  leads_all : (steps : List Step) (t : Standing) → Holds t → Leads t.core (standing_after v t steps) (ran_on v t steps)
  unfolding standing_after ran_on
  leads_all [] t h = record { holds = h; goes = goes_same t.core; each = tt }
  leads_all (step ∷ steps) t h =
      let next : Standing = behind v t step in
      let end : Standing = standing_after v next steps in
      let first = leads_one step t h in
      let later = leads_all steps next first.holds in
      record {
        holds = later.holds;
        goes =
            subst (GoesOnSerially src t.core end.core) (sym (entries-append src rule (ran_at v t step) (ran_on v next steps)))
            (goes_then src t.core next.core end.core (entries_of src rule (ran_at v t step)) (entries_of src rule (ran_on v next steps)) first.goes later.goes);
        each = each_joined Runs (ran_at v t step) (ran_on v next steps) first.each later.each;
      }

  -- From a core that fits, of which fewer than 256 requests wait

  module _ (start : Core) (fits : CoreFits tables start) (wait : length start.pending < 256) where
    pub from_start : (steps : List Step) → Leads start (standing_after v (begun start) steps) (ran_on v (begun start) steps)
    from_start steps = leads_all steps (begun start) (record { fits = fits; wait = λ goes. wait })

    each_of : (P : Core → Type 0) → ((core : Core) → Runs core → P core) → (cores : List Core) → AllByRecursion Runs cores → AllByRecursion P cores
    each_of P each [] all = tt
    each_of P each (core ∷ cores) all = (each core all.0, each_of P each cores all.1)

    -- what holds of each core that fits holds of those that its batches run on
    pub each_fitting : (P : Core → Type 0) → ((core : Core) → CoreFits tables core → P core) → (steps : List Step) → AllByRecursion P (ran_on v (begun start) steps)
    each_fitting P each steps = each_of P (λ core ran. each core ran.fits) (ran_on v (begun start) steps) (from_start steps).each

    -- and the state behind each takes its writes
    pub each_takes_writes : (steps : List Step) → AllByRecursion (TakesWrites src rule) (ran_on v (begun start) steps)
    each_takes_writes steps =
        each_of (TakesWrites src rule) (λ core ran. batch_takes_writes src rule (lawful compiled s few) core ran.small) (ran_on v (begun start) steps) (from_start steps).each

    -- it goes on serially to the core that it leaves
    pub goes_on : (steps : List Step) (last : Core) (Ran : ℕ → Type 0) (e : EndsAmong v steps (begun start) last Ran) → Goes start last (ran_on v (begun start) e.first)
    goes_on steps last Ran e = by e.rest e.core
      where
        by : (rest : List Step) → (last ≡ (standing_after v (begun start) e.first).core) ⊎ IsAtNext v (standing_after v (begun start) e.first) rest last
            → Goes start last (ran_on v (begun start) e.first)
        by rest (inl same) = subst (λ core. Goes start core (ran_on v (begun start) e.first)) (sym same) (from_start e.first).goes
        by [] (inr at) = absurd at
        by (step ∷ rest) (inr at) =
            let t : Standing = standing_after v (begun start) e.first in
            let moved : Core = (move_of v t step).core in
            let entries : List Entry = entries_of src rule (ran_on v (begun start) e.first) in
            subst (λ core. Goes start core (ran_on v (begun start) e.first)) (sym at)
            (subst (GoesOnSerially src start moved) (append-nil entries)
            (goes_then src start t.core moved entries [] (from_start e.first).goes (goes_moved t step)))
