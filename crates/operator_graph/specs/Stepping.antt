-- One transaction in flight: its next event is handled, and where nothing is left to do its work is made.
use Rattle.std.specs.Prelude.{◌≡◌, ℕ, Bool, true, false, List, Some, slice_get, slice_set}
use Rattle.std.specs.FinMap as map
use Rattle.std.specs.FinSet as set
use Rattle.sf_value.specs.Keys.{Key, key_of}
use Rattle.sf_value.specs.declared.value.Ref.{Ref}
use Rattle.sf_value.specs.declared.Outcome.TheVariants as outcome
use Rattle.program_meaning.specs.World.{State, Keys}
use Rattle.keyed_state.specs.declared.Work.{Work}
use Rattle.keyed_state.specs.Works.{keys_of, held_record}
use Rattle.transaction_buffers.specs.Buffered.{Buffered, seen, noted}
use Rattle.block_code.specs.declared.event.Event.{Event}
use Rattle.block_code.specs.declared.event.EventKind.{EventKind}
use Rattle.block_code.specs.declared.event.EventKind.TheVariants as kind
use Rattle.block_runs.specs.EventStep.{Step, lasts, target_of}
use Rattle.block_runs.specs.StepFits.{IsReady}
use Rattle.block_step.specs.declared.compiled.Compiled.{Compiled}
use Rattle.block_step.specs.CompiledViews.{compiled_tables, compiled_blocks, StepsIn}
use Rattle.transaction_steps.specs.Transactions.{is_done}
use Rattle.operator_graph.specs.declared.flight.Flight.{Flight}

-- an event can be handled on the record that is seen of its target
pub record CanStep (c : Compiled) (snapshot : State) (f : Flight) : Type 0 where
  pub target : Ref
  pub is_target : target_of f.next.kind (lasts f.next.frames) ≡ Some target
  pub ready : IsReady (compiled_tables c) (compiled_blocks c) f.next (seen snapshot f.buffers (key_of target))

-- it was handled at this entity, and what this left is noted
pub record HasHandled (c : Compiled) (snapshot : State) (e : Event) (at : Ref) (old new : Buffered) (next : Event) : Type 0 where
  pub step : Step
  pub by : StepsIn c e (seen snapshot old (key_of at)) step
  pub buffers : new ≡ noted old (key_of at) step.held step.wrote
  pub is_next : next ≡ step.next

-- a flight's next event was handled at its target
pub record HasStepped (c : Compiled) (snapshot : State) (old new : Flight) : Type 0 where
  pub target : Ref
  pub is_target : target_of old.next.kind (lasts old.next.frames) ≡ Some target
  pub handled : HasHandled c snapshot old.next target old.buffers new.buffers new.next

-- what was asked for has failed
abbrev pub has_failed : EventKind → Bool
has_failed (kind.Done (outcome.Failed f)) = true
has_failed k = false

-- what counts as written of what is buffered: a request that failed has written nothing
abbrev pub kept_writes : Bool → Buffered → Keys
kept_writes true b = set.empty
kept_writes false b = b.writes

-- a work is of what was buffered, where that failed or where it didn't
pub record IsOfBuffers (failed : Bool) (b : Buffered) (work : Work) : Type 0 where
  pub reads : keys_of work.reads ≡ b.reads
  pub writes : keys_of work.writes ≡ kept_writes failed b
  pub held : (q : Key) → set.contains (kept_writes failed b) q ≡ true → held_record work.held q ≡ map.get b.own q

-- where nothing is left to do, the work is of the buffers; or else all is as it was
pub record IsSettled (old new : Flight) (before after : Work) : Type 0 where
  pub next : new.next ≡ old.next
  pub goes_on : is_done old.next.kind ≡ false → (new.buffers ≡ old.buffers) × (after ≡ before)
  pub is_over : is_done old.next.kind ≡ true → IsOfBuffers (has_failed old.next.kind) old.buffers after

-- a flight goes on: its event is handled, and then it is settled
pub record HasGoneOn (c : Compiled) (snapshot : State) (old new : Flight) (before after : Work) : Type 0 where
  pub between : Flight
  pub stepped : HasStepped c snapshot old between
  pub settled : IsSettled between new before after

-- the flight at this place has gone on
pub record HasGoneOnAt (c : Compiled) (snapshot : State) (place : ℕ) (flights after : List Flight) (works left : List Work) : Type 0 where
  pub old : Flight
  pub is_old : slice_get flights place ≡ Some old
  pub before : Work
  pub is_before : slice_get works place ≡ Some before
  pub new : Flight
  pub is_new : after ≡ slice_set flights place new
  pub work : Work
  pub is_work : left ≡ slice_set works place work
  pub gone : HasGoneOn c snapshot old new before work
