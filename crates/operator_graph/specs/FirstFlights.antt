-- The flights of requests before any event is handled.
use Rattle.std.specs.Prelude.{ℕ, suc, List, [], ◌∷◌, map}
use Rattle.sf_value.specs.declared.Act.{Act}
use Rattle.sf_value.specs.declared.Request.{Request}
use Rattle.sf_value.specs.declared.Outcome.TheVariants as outcome
use Rattle.program_meaning.specs.ClassTables.{Source}
use Rattle.program_meaning.specs.World.{size_limit}
use Rattle.program_meaning.specs.RequestRun.{steps_at_first}
use Rattle.block_code.specs.declared.event.Event.{Event}
use Rattle.block_code.specs.declared.event.EventKind.TheVariants as kind
use Rattle.block_runs.specs.EventStep.{event}
use Rattle.request_events.specs.RequestEvents.{steps_behind_first, asked_for, first_event}
use Rattle.transaction_buffers.specs.Buffered.{no_buffers}
use Rattle.operator_graph.specs.declared.flight.Flight.{Flight}

-- what requests ask for
abbrev pub acts_of : List Request → List Act
acts_of = map (λ (r : Request). r.act)

-- the first event of one that doesn't weigh too much, and of one that does
abbrev pub begun : Source → ℕ → Act → Event
begun src tx asked = event tx steps_behind_first [] (asked_for src asked)

abbrev pub refused : ℕ → Event
refused tx = event tx steps_at_first [] (kind.Done (outcome.Failed size_limit))

abbrev pub first_flight : Source → ℕ → Act → Flight
first_flight src tx asked = record { next = first_event src tx asked; buffers = no_buffers }

-- of each request; the first of them has this number
unfoldable pub first_flights : Source → ℕ → List Act → List Flight
first_flights src tx [] = []
first_flights src tx (asked ∷ more) = first_flight src tx asked ∷ first_flights src (suc tx) more
