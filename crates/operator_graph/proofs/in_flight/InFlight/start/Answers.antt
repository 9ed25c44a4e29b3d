use Rattle.std.proofs.Common.{◌≡◌, ◌∙◌, ◌<◌, ◌≤◌, ◌*◌, List, length, arith, sym, ap, subst}
use Rattle.std.proofs.lemmas.Result.{IfOk-weaker}
use Rattle.program_meaning.specs.World.{State}
use Rattle.program_meaning.specs.Sources.{source_of}
use Rattle.quiet_methods.specs.MarksKeepWithin.{source}
use Rattle.block_step.specs.CompiledViews.{compiled_program, compiled_names}
use Rattle.transaction_steps.specs.Transactions.{firsts}
use Rattle.transaction_steps.specs.GoingOn.{most_weight}
use Rattle.operator_graph.specs.declared.flight.Flight.{Flight}
use Rattle.operator_graph.specs.FirstFlights.{acts_of, first_flights}
use Rattle.operator_graph.specs.Flights.{EachTransaction, FlightsFit, no_works}
use Rattle.operator_graph.specs.Going.{places_going, weights}
use Rattle.operator_graph.proofs.StartLaws.{as_many, are_begun, are_under_way, are_light}
use Rattle.operator_graph.proofs.in_flight.InFlight.start.Goals as goal
use Rattle.operator_graph.proofs.in_flight.InFlight.start.Goals.{In-Ok}

-- the flights are the first ones of the compiled program
are_first : (c : In-Ok) → c.in-Ok.flights ≡ first_flights (source (compiled_names c.args.compiled.now) (compiled_program c.args.compiled.now)) 0 (acts_of c.args.requests.now)
are_first c =
    let program : source_of c.program.result.now ≡ source (compiled_names c.args.compiled.now) (compiled_program c.args.compiled.now) = λ i. record { program = c.program.ensures.program i; names = c.program.ensures.names i } in
    c.in-Ok.ensures ∙ ap (λ src. first_flights src 0 (acts_of c.as_slice.result.now)) program ∙ ap (λ rs. first_flights (source (compiled_names c.args.compiled.now) (compiled_program c.args.compiled.now)) 0 (acts_of rs)) c.as_slice.ensures

are_as_many : (c : In-Ok) → length c.in-Ok.flights ≡ length c.args.requests.now
are_as_many c = as_many c.args.compiled.now c.requires.whole c.args.requests.now c.in-Ok.flights (are_first c)

pub begun-requires-clause-as_many : goal.begun-requires-clause-as_many
begun-requires-clause-as_many c = c.in_ok-outcomes.ensures ∙ c.len.ensures ∙ sym (are_as_many c)

pub begun-requires-clause-few : goal.begun-requires-clause-few
begun-requires-clause-few c =
    let count : length c.in-Ok.flights ≡ length c.args.requests.now = are_as_many c in
    let few : length c.args.requests.now < 4294967296 = c.requires.few in
    omega (arith, count, few)

pub returns-in-Ok-clause-first : goal.returns-in-Ok-clause-first
returns-in-Ok-clause-first c = IfOk-weaker c.begun.result _ _ (λ f is. subst (λ (fs : List Flight). (snapshot : State) →
    EachTransaction snapshot (firsts (source (compiled_names c.args.compiled.now) (compiled_program c.args.compiled.now)) snapshot (acts_of c.args.requests.now)) fs (no_works (length c.args.requests.now))) (sym is.0)
    (are_begun c.args.compiled.now c.requires.whole c.args.requests.now c.in-Ok.flights (are_first (goal.at.returns-in-Ok-clause-first c).In-Ok))) c.begun.ensures

pub returns-in-Ok-clause-under_way : goal.returns-in-Ok-clause-under_way
returns-in-Ok-clause-under_way c = IfOk-weaker c.begun.result _ _ (λ f is snapshot fits. record {
  fit = subst (λ (fs : List Flight). FlightsFit c.args.compiled.now snapshot fs (no_works (length c.args.requests.now))) (sym is.0)
      (are_under_way c.args.compiled.now c.requires.whole c.args.requests.now c.in-Ok.flights (are_first (goal.at.returns-in-Ok-clause-under_way c).In-Ok) c.requires.fit snapshot fits);
  placed = is.1 ∙ ap (places_going 0) (sym is.0);
}) c.begun.ensures

pub returns-in-Ok-clause-light : goal.returns-in-Ok-clause-light
returns-in-Ok-clause-light c = IfOk-weaker c.begun.result _ _ (λ f is. subst (λ (fs : List Flight). weights fs ≤ length c.args.requests.now * most_weight) (sym is.0)
    (are_light c.args.compiled.now c.requires.whole c.args.requests.now c.in-Ok.flights (are_first (goal.at.returns-in-Ok-clause-light c).In-Ok) c.requires.fit)) c.begun.ensures
