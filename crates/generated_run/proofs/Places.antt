-- How many entries and requests a session has behind its steps: each line brings at most one, and no batch adds any.
use Rattle.std.proofs.Common.{◌≡◌, ℕ, zero, suc, arith, ◌+◌, ◌<◌, ◌≤◌, ◌^◌, Bool, true, false, List, [], ◌∷◌, ◌++◌, length, replicate, if◌then◌else◌, refl}
use Rattle.std.proofs.lemmas.List.{length-append, length-map}
use Rattle.sf_value.specs.declared.Request.{Request}
use Rattle.request_json.specs.Actions.{Line, Action, Skip, Refuse, Ask, action_of}
use Rattle.engine.specs.declared.arrival.Arrival.{Arrival}
use Rattle.engine.specs.declared.arrival.Arrival.TheVariants as arrival
use Rattle.engine.specs.Cores.{Core}
use Rattle.engine.specs.Arrivals.{arrival_of, joined}
use Rattle.engine.specs.Batches.{requests_at, other_places, entry_on, batch_entries, after_batch}
use Rattle.engine.proofs.PlaceLaws.{count_once}
use Rattle.batch_output.specs.BatchOutput.{Standing, taken, is_due, committed, has_no_place, settled, settled_if, with_line, is_over}
use Rattle.batch_output.specs.SerialBatches.{IsLawfulRule}
use Rattle.batch_output.proofs.LawfulBatches.{is_split}
use Rattle.batch_session.specs.Vocabulary.{Step, Answer, RunWaiting, answers, move_of, behind, standing_after, Service, program_of}

-- the entries of the history and the requests that wait
abbrev pub places_of : Core → ℕ
places_of core = length core.history + length core.pending

-- Lines

arrives : (core : Core) (r : Request) (a : Arrival) → places_of (joined core r a) ≤ places_of core + 1
arrives core r arrival.New = omega (arith, length-append core.pending (r ∷ []))
arrives core r (arrival.Again place) = omega arith
arrives core r arrival.Waiting = omega arith
arrives core r arrival.Reused = omega arith

takes_one : (core : Core) (action : Action) → places_of (taken core action) ≤ places_of core + 1
takes_one core Skip = omega arith
takes_one core (Refuse cause) = omega arith
takes_one core (Ask r) = arrives core r (arrival_of core r)

-- how many lines are among steps

abbrev pub lines_in : List Step → ℕ
lines_in [] = 0
lines_in (Answer line ∷ steps) = 1 + lines_in steps
lines_in (RunWaiting ∷ steps) = lines_in steps

pub lines_in-append : (xs ys : List Step) → lines_in (xs ++ ys) ≡ lines_in xs + lines_in ys
lines_in-append [] ys = omega arith
lines_in-append (Answer line ∷ xs) ys = omega (arith, lines_in-append xs ys)
lines_in-append (RunWaiting ∷ xs) ys = lines_in-append xs ys

pub lines_in-answers : (lines : List Line) → lines_in (answers lines) ≡ length lines
lines_in-answers [] = refl
lines_in-answers (line ∷ lines) = omega (arith, lines_in-answers lines)

pub lines_in-endings : (n : ℕ) → lines_in (replicate n RunWaiting) ≡ 0
lines_in-endings zero = refl
lines_in-endings (suc n) = lines_in-endings n

module _ (v : Service) (lawful : IsLawfulRule v.rule) where
  -- Batches

  batch_keeps : (core : Core) → places_of core < 2 ^ 32
      → places_of (after_batch (program_of v) core (committed (program_of v) v.rule v.limits core)) ≤ places_of core
  batch_keeps core few =
      let places : List ℕ = committed (program_of v) v.rule v.limits core in
      let others : List ℕ = other_places (length core.pending) places in
      let entries = length-map (requests_at core.pending places) (entry_on (program_of v) core.state) in
      let count = count_once core.pending places others (is_split (program_of v) v.rule v.limits lawful core (omega arith)) in
      omega (arith, length-append core.history (batch_entries (program_of v) core places), entries, count)

  abbrev settled_by : Bool → Standing → Standing
  settled_by full s =
      if full
      then record { core = s.core; lines = s.lines; is_full = true }
      else record { core = after_batch (program_of v) s.core (committed (program_of v) v.rule v.limits s.core); lines = s.lines; is_full = false }

  settles : (full : Bool) (s : Standing) → places_of s.core < 2 ^ 32 → places_of (settled_by full s).core ≤ places_of s.core
  settles true s few = omega arith
  settles false s few = batch_keeps s.core few

  settles_if : (due : Bool) (s : Standing) → places_of s.core < 2 ^ 32
      → places_of (settled_if (program_of v) v.rule v.limits due s).core ≤ places_of s.core
  settles_if true s few = settles (has_no_place (program_of v) v.rule v.limits s.core) s few
  settles_if false s few = omega arith

  abbrev step_by : Bool → Standing → Line → Standing
  step_by full s line =
      if full
      then s
      else settled_if (program_of v) v.rule v.limits (is_due (program_of v) v.rule v.limits s.core (action_of (program_of v) line))
      (with_line (program_of v) v.rule v.limits s (action_of (program_of v) line))

  answered : (full : Bool) (s : Standing) (line : Line) → places_of s.core + 1 < 2 ^ 32 → places_of (step_by full s line).core ≤ places_of s.core + 1
  answered true s line few = omega arith
  answered false s line few =
      let one = takes_one s.core (action_of (program_of v) line) in
      let kept =
      settles_if (is_due (program_of v) v.rule v.limits s.core (action_of (program_of v) line))
      (with_line (program_of v) v.rule v.limits s (action_of (program_of v) line)) (omega arith) in
      omega arith

  abbrev waited_by : Bool → Standing → Standing
  waited_by over s = if over then s else settled (program_of v) v.rule v.limits s

  waited : (over : Bool) (s : Standing) → places_of s.core < 2 ^ 32 → places_of (waited_by over s).core ≤ places_of s.core
  waited true s few = omega arith
  waited false s few = settles (has_no_place (program_of v) v.rule v.limits s.core) s few

  -- a step, and then all
  pub behind_one : (step : Step) (s : Standing) → places_of s.core + lines_in (step ∷ []) < 2 ^ 32
      → places_of (behind v s step).core ≤ places_of s.core + lines_in (step ∷ [])
  behind_one (Answer line) s few = omega (arith, answered s.is_full s line (omega arith))
  behind_one RunWaiting s few = omega (arith, waited (is_over (program_of v) v.rule v.limits s) s (omega arith))

  pub behind_all : (steps : List Step) (s : Standing) → places_of s.core + lines_in steps < 2 ^ 32
      → places_of (standing_after v s steps).core ≤ places_of s.core + lines_in steps
  unfolding standing_after
  behind_all [] s few = omega arith
  behind_all (step ∷ steps) s few =
      let split = lines_in-append (step ∷ []) steps in
      let one = behind_one step s (omega arith) in
      let more = behind_all steps (behind v s step) (omega arith) in
      omega arith

  -- the core that a batch runs on at the next step
  pub next_move : (step : Step) (s : Standing) → places_of (move_of v s step).core ≤ places_of s.core + lines_in (step ∷ [])
  next_move (Answer line) s = takes_one s.core (action_of (program_of v) line)
  next_move RunWaiting s = omega arith
