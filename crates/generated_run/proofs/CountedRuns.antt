-- The work has few batches, and these few events: no count of its tally stops.
use Rattle.std.proofs.Common.{◌≡◌, ℕ, arith, ◌+◌, ◌*◌, ◌≤◌, ◌<◌, ◌^◌, Bool, true, false, List, [], ◌∷◌, length, if◌then◌else◌, ap, ◌∙◌, subst, sym}
use Rattle.std.specs.List.{AllByRecursion}
use Rattle.std.proofs.lemmas.List.{length-append, length-map, length-replicate}
use Rattle.py_tree.specs.ClassRules.{PlainTable, tables_of}
use Rattle.sf_value.specs.declared.Request.{Request}
use Rattle.program_meaning.proofs.Soundness.{checked_are_known}
use Rattle.few_events.proofs.FewEvents.{events_are_few}
use Rattle.block_step.specs.declared.compiled.Compiled.{Compiled}
use Rattle.block_step.specs.CompiledViews.{compiled_program, compiled_names, compiled_tables, compiled_blocks, IsWhole}
use Rattle.operator_graph.specs.BatchEvents.{event_told, batch_told}
use Rattle.operator_graph.specs.FirstFlights.{acts_of}
use Rattle.operator_graph.specs.Turns.{Outside}
use Rattle.reservations.specs.BatchRuleLaws.{batch_rule_is_lawful}
use Rattle.request_json.specs.Actions.{Line, all_lines}
use Rattle.engine.specs.Cores.{Core, CoreFits, empty_core}
use Rattle.engine.proofs.EmptyLaws.{empty_fits}
use Rattle.engine.proofs.RunLaws.{asked_fit}
use Rattle.batch_output.specs.BatchOutput.{Standing, begun, has_no_place}
use Rattle.batch_output.specs.SerialBatches.{IsLawfulRule}
use Rattle.batch_session.specs.Vocabulary.{Tally, Service, program_of, Step, Answer, RunWaiting, answers, endings, all_steps, standing_after, move_of, behind, ran_at, ran_on, RunBatches, BatchCounts, events_in, no_batch, tally_after}
use Rattle.batch_session.proofs.Vocabulary.{each_joined, counts_of_each, batches_plain, events_plain}
use Rattle.batch_run.specs.declared.running.RunSettings.{RunSettings}
use Rattle.batch_run.proofs.StandingLaws.{each_fitting}
use Rattle.generated_run.specs.declared.running.GenSettings.{GenSettings}
use Rattle.generated_run.specs.Summaries.{counts_of, counted_by}
use Rattle.generated_run.specs.Generated.{service_by, input_of, history_limit, batch_cores}
use Rattle.generated_run.proofs.WorkLaws.{requests_short}
use Rattle.generated_run.proofs.LineCounts.{few_lines}
use Rattle.generated_run.proofs.Places.{places_of, lines_in, lines_in-append, lines_in-answers, lines_in-endings, behind_one, behind_all, next_move}

-- Batches

-- no more requests wait than the work has lines
abbrev FewWait : Core → Type 0
FewWait core = length core.pending ≤ 100001

record AreFew (most : ℕ) (cores : List Core) : Type 0 where
  wait : AllByRecursion FewWait cores
  few : length cores ≤ most

at_most_one : (full due none : Bool) (core : Core) → FewWait core → AreFew 1 (if full then [] else (if due then (if none then [] else core ∷ []) else []))
at_most_one true due none core waits = record { wait = tt; few = omega arith }
at_most_one false false none core waits = record { wait = tt; few = omega arith }
at_most_one false true true core waits = record { wait = tt; few = omega arith }
at_most_one false true false core waits = record { wait = (waits, tt); few = omega arith }

module _ (v : Service) (lawful : IsLawfulRule v.rule) where
  -- each step runs one at most
  steps_run : (steps : List Step) (t : Standing) → places_of t.core + lines_in steps ≤ 100001 → AreFew (length steps) (ran_on v t steps)
  unfolding ran_on
  steps_run [] t few = record { wait = tt; few = omega arith }
  steps_run (step ∷ steps) t few =
      let split = lines_in-append (step ∷ []) steps in
      let core : Core = (move_of v t step).core in
      let moved = next_move v lawful step t in
      let here : AreFew 1 (ran_at v t step) =
      at_most_one t.is_full (move_of v t step).is_due (has_no_place (program_of v) v.rule v.limits core) core (omega (arith, split, moved, few)) in
      let one = behind_one v lawful step t (omega (arith, split, few)) in
      let rest : AreFew (length steps) (ran_on v (behind v t step) steps) = steps_run steps (behind v t step) (omega (arith, split, one, few)) in
      let both = length-append (ran_at v t step) (ran_on v (behind v t step) steps) in
      record {
        wait = each_joined FewWait (ran_at v t step) (ran_on v (behind v t step) steps) here.wait rest.wait;
        few = omega (arith, here.few, rest.few, both);
      }

-- Events

module _ (v : Service) where
  abbrev compiled : Compiled
  compiled = v.compiled

  -- along whichever picks
  abbrev HasFewEvents : Core → Type 0
  HasFewEvents core =
      (picks : List ℕ) → length (batch_told (program_of v) (compiled_tables compiled) (compiled_blocks compiled) core.state (acts_of core.pending) v.parts picks)
      ≤ length core.pending * 6500000

  has_few_events : IsWhole compiled → (core : Core) → CoreFits (tables_of (compiled_names compiled) (compiled_program compiled)) core → HasFewEvents core
  has_few_events whole core fits picks =
      let Within : List PlainTable → ℕ → Type 0 =
      λ tables count. length (batch_told (program_of v) tables (compiled_blocks compiled) core.state (acts_of core.pending) v.parts picks) ≤ count * 6500000 in
      let tables : List PlainTable = tables_of (compiled_names compiled) (compiled_program compiled) in
      let few : Within tables (length (acts_of core.pending)) =
      events_are_few (compiled_names compiled) (compiled_program compiled) (checked_are_known compiled.program) (compiled_blocks compiled) whole.fits
      core.state fits.state (acts_of core.pending) (asked_fit tables core.pending fits.pending.requests) (λ t. event_told v.parts t.next) picks in
      subst (λ ts. Within ts (length core.pending)) (sym whole.has_tables)
      (subst (λ n. Within tables n) (length-map core.pending (λ (r : Request). r.act)) few)

  events_within : (cores : List Core) (counts : List BatchCounts) (old new : Outside) → RunBatches v cores counts old new → AllByRecursion HasFewEvents cores
      → AllByRecursion FewWait cores → events_in counts ≤ length cores * 650006500000
  unfolding events_in
  events_within [] [] old new ran light wait = omega arith
  events_within [] (c ∷ counts) old new ran light wait = absurd ran
  events_within (core ∷ cores) [] old new ran light wait = absurd ran
  events_within (core ∷ cores) (c ∷ counts) old new ran light wait =
      let told = ran.1.told in
      let most = light.0 told.picks in
      let rest : events_in counts ≤ length cores * 650006500000 = events_within cores counts ran.0 new ran.2 light.1 wait.1 in
      omega (arith, told.counted_all, most, wait.0, rest)

-- The work

-- the settings of a run that serves it
abbrev pub run_of : GenSettings → RunSettings
run_of s = record { batch = s.batch; partitions = s.parts; schedule = s.number; history = history_limit; limit = 0; reorder = false; trace = false }

module _ (s : GenSettings) (made : Compiled) (whole : IsWhole made) (least : s.size ≤ 100000) (few : s.batch ≤ 256) where
  abbrev served : Service
  served = service_by s made

  lawful : IsLawfulRule served.rule
  lawful = λ batch short. batch_rule_is_lawful batch

  abbrev lines : List Line
  lines = all_lines (input_of s)

  abbrev behind_lines : Standing
  behind_lines = standing_after served (begun empty_core) (answers lines)

  abbrev steps : List Step
  steps = all_steps served empty_core (input_of s)

  lines_few : length lines ≤ 100001
  lines_few =
      let ends = (requests_short s.size 1 s.number (omega arith)).counted in
      omega (arith, few_lines (input_of s), ends, least)

  waiting_few : length behind_lines.core.pending ≤ 100001
  waiting_few = omega (arith, lines_few, lines_in-answers lines, behind_all served lawful (answers lines) (begun empty_core) (omega (arith, lines_few, lines_in-answers lines)))

  lines_in_steps : lines_in steps ≤ 100001
  lines_in_steps =
      omega (
        arith,
        lines_few,
        lines_in-append (answers lines) (endings behind_lines),
        lines_in-answers lines,
        lines_in-endings (length behind_lines.core.pending),
      )

  steps_few : length steps ≤ 200002
  steps_few =
      omega (
        arith,
        lines_few,
        waiting_few,
        length-append (answers lines) (endings behind_lines),
        length-map lines Answer,
        length-replicate (length behind_lines.core.pending) RunWaiting,
      )

  -- a tally counts all of its batches, and all their events
  pub counts_plain : (counts : List BatchCounts) (old new : Outside) → RunBatches served (batch_cores served (input_of s)) counts old new → (tally : Tally)
      → tally ≡ tally_after no_batch counts → counted_by tally ≡ counts_of counts
  counts_plain counts old new ran tally is =
      let cores : List Core = batch_cores served (input_of s) in
      let run : AreFew (length steps) cores = steps_run served lawful steps (begun empty_core) (omega (arith, lines_in_steps)) in
      let light : AllByRecursion (HasFewEvents served) cores =
      each_fitting made (run_of s) few empty_core (empty_fits (compiled_names made) (compiled_program made)) (omega arith) (HasFewEvents served)
      (λ core there. has_few_events served whole core there) steps in
      let events : events_in counts ≤ length cores * 650006500000 = events_within served cores counts old new ran light run.wait in
      let as_many : length counts ≡ length cores = counts_of_each served cores counts old new ran in
      let short : length counts < 2 ^ 64 = omega (arith, as_many, run.few, steps_few) in
      let small : events_in counts < 2 ^ 64 = omega (arith, events, run.few, steps_few) in
      ap counted_by is ∙ (λ i. record { batches = batches_plain counts short i; events = events_plain counts small i })
