use Rattle.std.proofs.Common.{◌≡◌, ◌++◌, drop}
use Rattle.program_meaning.specs.Sources.{source_of}
use Rattle.operator_graph.specs.FirstFlights.{acts_of, first_flights}
use Rattle.operator_graph.proofs.first_flights.first_flights.Given as goal

abbrev pub invariant-loop-tx : goal.invariant-loop-tx
invariant-loop-tx l = l.made ++ first_flights (source_of l.program) l.tx (acts_of (drop l.tx l.requests)) ≡ first_flights (source_of l.program) 0 (acts_of l.requests)
