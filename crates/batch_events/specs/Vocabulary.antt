-- The definitions of lower crates that the crates above this one name from here.
pub use Rattle.operator_graph.specs.BatchEvents.{batch_counts, batch_running, batch_told, transactions}
pub use Rattle.operator_graph.specs.BatchInFlight.{IsUnderWay, flights_in, weight_in_flight}
pub use Rattle.operator_graph.specs.BufferedWorks.{EachBuffers}
pub use Rattle.operator_graph.specs.FirstFlights.{acts_of}
pub use Rattle.operator_graph.specs.Flights.{EachTransaction, no_works, turns_of}
pub use Rattle.operator_graph.specs.Going.{all_come_to, come_to}
pub use Rattle.operator_graph.specs.Partitions.{IsParts}
pub use Rattle.operator_graph.specs.Telling.{AlsoTold, Told}
pub use Rattle.operator_graph.specs.Turns.{Outside, PicksOne, Turns}
pub use Rattle.operator_graph.specs.declared.flight.Flight.{Flight}
pub use Rattle.transaction_steps.specs.GoingOn.{most_weight}
pub use Rattle.transaction_steps.specs.Transactions.{Transaction, firsts, is_done}
