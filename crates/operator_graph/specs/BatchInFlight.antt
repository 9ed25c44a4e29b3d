-- A batch in flight: the transactions that it is, how many of them go on, and what they have come to.
use Rattle.std.specs.Prelude.{◌≡◌, ℕ, List}
use Rattle.sf_value.specs.declared.Outcome.{Outcome}
use Rattle.program_meaning.specs.World.{State}
use Rattle.keyed_state.specs.declared.Work.{Work}
use Rattle.block_step.specs.declared.compiled.Compiled.{Compiled}
use Rattle.transaction_steps.specs.Transactions.{Transaction}
use Rattle.operator_graph.specs.declared.flight.Flight.{Flight}
use Rattle.operator_graph.specs.declared.in_flight.InFlight.{InFlight}
use Rattle.operator_graph.specs.Going.{going, places_going, weights, all_come_to}
use Rattle.operator_graph.specs.Flights.{EachTransaction, FlightsFit}

abbrev pub flights_in : InFlight → List Flight
flights_in batch = batch.flights

-- these transactions are those of the batch, and what they have done once they are over is in these works
abbrev pub AreTransactions : State → List Transaction → InFlight → List Work → Type 0
AreTransactions snapshot ts batch works = EachTransaction snapshot ts (flights_in batch) works

-- a batch is under way: it is transactions on this snapshot that fit what was compiled, and it knows the places of those that go on
pub record IsUnderWay (c : Compiled) (snapshot : State) (batch : InFlight) (works : List Work) : Type 0 where
  pub fit : FlightsFit c snapshot (flights_in batch) works
  pub placed : batch.places ≡ places_going 0 (flights_in batch)

-- how many go on
abbrev pub count_in_flight : InFlight → ℕ
count_in_flight batch = going (flights_in batch)

-- more than how many events may still come
abbrev pub weight_in_flight : InFlight → ℕ
weight_in_flight batch = weights (flights_in batch)

-- what they have come to, once all are over
abbrev pub outcomes_in : InFlight → List Outcome
outcomes_in batch = all_come_to (flights_in batch)
