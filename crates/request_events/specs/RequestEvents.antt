-- The events of one request, handled one after another, and what they come to.
--
-- A request has a world of its own: the state as it sees it, which begins as the snapshot, and the entities that its events have read and
-- written. Each event reads its target.
use Rattle.std.specs.Prelude.{◌≡◌, ◌-◌, ℕ, if◌then◌else◌, List, [], ◌∷◌, Some, None}
use Rattle.std.specs.declared.option.Option.{Option}
use Rattle.std.specs.FinMap as map
use Rattle.std.specs.FinSet as set
use Rattle.py_tree.specs.ClassRules.{PlainTable}
use Rattle.sf_value.specs.Keys.{Key, key_of}
use Rattle.sf_value.specs.declared.value.Value.{Value}
use Rattle.sf_value.specs.declared.value.Ref.{Ref}
use Rattle.sf_value.specs.declared.Act.{Act}
use Rattle.sf_value.specs.declared.Act.TheVariants as act
use Rattle.sf_value.specs.declared.Outcome.{Outcome}
use Rattle.sf_value.specs.declared.Outcome.TheVariants as outcome
use Rattle.program_meaning.specs.ClassTables.{Source}
use Rattle.program_meaning.specs.World.{State, World, size_limit}
use Rattle.program_meaning.specs.Calls.{new_key}
use Rattle.program_meaning.specs.RequestRun.{Ran, steps_at_first, is_too_heavy}
use Rattle.block_code.specs.declared.event.Event.{Event}
use Rattle.block_code.specs.declared.event.EventKind.{EventKind}
use Rattle.block_code.specs.declared.event.EventKind.TheVariants as kind
use Rattle.block_code.specs.PlainBlocks.{PlainBlock}
use Rattle.block_runs.specs.EventStep.{Step, StepsTo, lasts, target_of, event, ref_of}

-- Where they begin

-- the call or the creation that is asked for takes a step
abbrev pub steps_behind_first : ℕ
steps_behind_first = steps_at_first - 1

abbrev pub asked_for : Source → Act → EventKind
asked_for src (act.Call class key method args) = kind.Enter (record { class = class; key = key }) method args
asked_for src (act.New class args) = kind.Make (ref_of (new_key src class args)) args

-- a request that weighs too much is over at once
abbrev pub first_event : Source → ℕ → Act → Event
first_event src tx asked =
    if is_too_heavy asked
    then event tx steps_at_first [] (kind.Done (outcome.Failed size_limit))
    else event tx steps_behind_first [] (asked_for src asked)

-- How they go on

-- the state with what is left of the record of an entity, where one is left
abbrev pub with_left : State → Key → Option (List Value) → State
with_left s at None = s
with_left s at (Some fields) = map.insert s at fields

-- the world behind a step at an entity: it has been read, its record is what the step leaves, and it counts as written where the step wrote
abbrev pub behind : World → Key → Step → World
behind w at s = record {
  state = with_left w.state at s.held;
  reads = set.insert w.reads at;
  writes = if s.wrote then set.insert w.writes at else w.writes;
}

module _ (src : Source) (tables : List PlainTable) (graph : List (List PlainBlock)) where
  -- an event is handled in a world, on the record of its target; this world is behind it, and this event is next
  pub record Handles (w : World) (e : Event) (after : World) (next : Event) : Type 0 where
    pub target : Ref
    pub is_target : target_of e.kind (lasts e.frames) ≡ Some target
    pub step : Step
    pub by : StepsTo src tables graph e (map.get w.state (key_of target)) step
    pub is_after : after ≡ behind w (key_of target) step
    pub is_next : next ≡ step.next

  -- from a world and an event these events are handled, one after another, up to this world and this event
  unfoldable pub Comes : World → Event → List Event → World → Event → Type 0
  Comes w e [] after next = (after ≡ w) × (next ≡ e)
  Comes w e (handled ∷ more) after next = (handled ≡ e) × (mid : World) × (e_mid : Event) × Handles w e mid e_mid × Comes mid e_mid more after next

-- What they come to

-- a request that fails has written nothing, and leaves the snapshot as it was
abbrev pub done : State → World → ℕ → Outcome → Ran
done s w n (outcome.Value v) = record { outcome = outcome.Value v; state = w.state; reads = w.reads; writes = w.writes; steps = n }
done s w n (outcome.Failed f) = record { outcome = outcome.Failed f; state = s; reads = w.reads; writes = set.empty; steps = n }

-- nothing, where it isn't over yet
abbrev pub ended_as : State → World → ℕ → EventKind → Option Ran
ended_as s w n (kind.Done outcome) = Some (done s w n outcome)
ended_as s w n k = None
