use Rattle.program_meaning.specs.Sources.{source_of}
use Rattle.operator_graph.specs.FirstFlights.{acts_of, first_flights}
use Rattle.operator_graph.proofs.FirstLaws.{flight_more, flights_end}
use Rattle.operator_graph.proofs.first_flights.first_flights.Goals as goal

pub loop-tx-preserved : goal.loop-tx-preserved
loop-tx-preserved c =
    flight_more (source_of c.args.program.now) c.args.requests.now c.loop-tx.tx c.index-requests-tx.result c.loop-tx.made c.add_first.new.made (first_flights (source_of c.args.program.now) 0 (acts_of c.args.requests.now))
    c.loop-tx-test.true c.index-requests-tx.is c.in_default.ensures c.loop-tx.invariant

pub returns : goal.returns
returns c = flights_end (source_of c.args.program.now) c.args.requests.now c.loop-tx.tx c.loop-tx.made (first_flights (source_of c.args.program.now) 0 (acts_of c.args.requests.now)) c.loop-tx-test.false c.loop-tx.invariant
