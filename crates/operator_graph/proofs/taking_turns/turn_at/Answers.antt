use Rattle.std.proofs.Common.{refl}
use Rattle.std.proofs.lemmas.Result.{on_ok_weaker}
use Rattle.operator_graph.proofs.TurnsTaken.{has_room}
use Rattle.operator_graph.proofs.taking_turns.turn_at.Goals as goal

pub tell-requires-clause-room : goal.tell-requires-clause-room
tell-requires-clause-room g c =
    has_room c.args.on.now.compiled.now c.requires.whole c.args.on.now.parts c.requires.parts c.args.on.now.state.now.contents c.args.flights.now c.args.place c.at_mut-flight.result.now c.at_mut-flight.ensures.value c.requires.can

pub returns-clause-gone : goal.returns-clause-gone
returns-clause-gone g c =
    on_ok_weaker c.go_on.result (λ gone. record {
      old = c.at_mut-flight.result.now;
      is_old = c.at_mut-flight.ensures.value;
      before = c.at_mut.result.now;
      is_before = c.at_mut.ensures.value;
      new = c.go_on.new.flight;
      is_new = refl;
      work = c.go_on.new.work;
      is_work = refl;
      gone = gone;
    }) c.go_on.ensures
