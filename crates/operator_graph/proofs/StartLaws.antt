-- The flights at the start are transactions on each snapshot, and where it fits they fit.
use Rattle.std.proofs.Common.{◌≡◌, ◌∙◌, ℕ, suc, arith, ◌+◌, ◌*◌, ◌≤◌, true≢false, List, [], ◌∷◌, length, refl, sym, ap, subst}
use Rattle.std.specs.List.{AllByRecursion}
use Rattle.std.specs.FinMap as map
use Rattle.std.specs.FinSet as set
use Rattle.std.specs.Option.{option_or}
use Rattle.std.proofs.lemmas.List.{length-map}
use Rattle.std.proofs.lemmas.Option.{none-some}
use Rattle.py_tree.specs.ClassRules.{PlainTable}
use Rattle.sf_value.specs.Keys.{key_cmp}
use Rattle.sf_value.specs.declared.Act.{Act}
use Rattle.sf_value.specs.declared.Request.{Request}
use Rattle.sf_value.specs.declared.Outcome.TheVariants as outcome
use Rattle.program_meaning.specs.ClassTables.{Source}
use Rattle.program_meaning.specs.World.{State}
use Rattle.program_meaning.specs.Fits.{StateFits, ActFits}
use Rattle.program_meaning.specs.RequestRun.{at_first}
use Rattle.keyed_state.specs.Works.{no_work}
use Rattle.block_code.specs.declared.event.EventKind.{EventKind}
use Rattle.block_code.specs.declared.event.EventKind.TheVariants as kind
use Rattle.block_runs.specs.StepFalls.{weight}
use Rattle.block_step.specs.declared.compiled.Compiled.{Compiled}
use Rattle.block_step.specs.CompiledViews.{compiled_program, compiled_names, compiled_tables, compiled_blocks, IsWhole}
use Rattle.quiet_methods.specs.MarksKeepWithin.{source}
use Rattle.interleaving.specs.AsAlone.{sum_of}
use Rattle.transaction_buffers.specs.Buffered.{no_buffers}
use Rattle.transaction_steps.specs.Transactions.{first_of, begun, firsts}
use Rattle.transaction_steps.specs.GoingOn.{TransactionFits, most_weight}
use Rattle.transaction_steps.proofs.GoingOn.{transactions_begin}
use Rattle.operator_graph.specs.declared.flight.Flight.{Flight}
use Rattle.operator_graph.specs.FirstFlights.{acts_of, first_flight, first_flights}
use Rattle.operator_graph.specs.Going.{weights}
use Rattle.operator_graph.specs.BufferedWorks.{written}
use Rattle.operator_graph.specs.Flights.{IsBuffered, IsTransaction, EachTransaction, FlightsFit, no_works}
use Rattle.operator_graph.proofs.FirstLaws.{as_many_flights}

-- One request

nothing_done : (snapshot : State) → IsBuffered snapshot (at_first snapshot) no_buffers
nothing_done snapshot = record {
  state = λ q. ap (λ o. option_or o (map.get snapshot q)) (sym (map.get-empty key_cmp q));
  reads = refl;
  writes = refl;
  own = λ q there. absurd (true≢false (sym there ∙ set.contains-empty key_cmp q));
}

nothing_written : (snapshot : State) (k : EventKind) → written (at_first snapshot) k ≡ set.empty
nothing_written snapshot (kind.Enter to method args) = refl
nothing_written snapshot (kind.Make to args) = refl
nothing_written snapshot (kind.Resume o) = refl
nothing_written snapshot (kind.Done (outcome.Value v)) = refl
nothing_written snapshot (kind.Done (outcome.Failed f)) = refl

begins : (src : Source) (snapshot : State) (tx : ℕ) (asked : Act) → IsTransaction snapshot (first_of src snapshot tx asked) (first_flight src tx asked) no_work
begins src snapshot tx asked = record {
  next = refl;
  goes_on = λ runs. (nothing_done snapshot, refl);
  is_over = λ over. record {
    reads = refl;
    writes = sym (nothing_written snapshot _);
    records = λ q there. absurd (true≢false (sym there ∙ ap (λ keys. set.contains keys q) (nothing_written snapshot _) ∙ set.contains-empty key_cmp q));
  };
}

-- All of them

begun_none : (src : Source) (snapshot : State) (tx : ℕ) → begun src snapshot tx [] ≡ []
unfolding begun
begun_none src snapshot tx = refl

begun_more : (src : Source) (snapshot : State) (tx : ℕ) (asked : Act) (more : List Act) → begun src snapshot tx (asked ∷ more) ≡ first_of src snapshot tx asked ∷ begun src snapshot (suc tx) more
unfolding begun
begun_more src snapshot tx asked more = refl

all_begin : (src : Source) (snapshot : State) (tx : ℕ) (acts : List Act) → EachTransaction snapshot (begun src snapshot tx acts) (first_flights src tx acts) (no_works (length acts))
unfolding begun first_flights
all_begin src snapshot tx [] = tt
all_begin src snapshot tx (asked ∷ more) = (begins src snapshot tx asked, all_begin src snapshot (suc tx) more)

module _ (c : Compiled) (whole : IsWhole c) where
  abbrev src : Source
  src = source (compiled_names c) (compiled_program c)

  abbrev tables : List PlainTable
  tables = compiled_tables c

  one_fits : (snapshot : State) → StateFits tables snapshot → (tx : ℕ) (asked : Act) → ActFits tables asked → TransactionFits tables (compiled_blocks c) (first_of src snapshot tx asked) × (weight (first_of src snapshot tx asked).next ≤ most_weight)
  one_fits =
      subst
      (λ (ts : List PlainTable).
      (snapshot : State) → StateFits ts snapshot → (tx : ℕ) (asked : Act) → ActFits ts asked → TransactionFits ts (compiled_blocks c) (first_of src snapshot tx asked) × (weight (first_of src snapshot tx asked).next ≤ most_weight))
      (sym whole.has_tables) (transactions_begin (compiled_names c) (compiled_program c) (compiled_blocks c))

  all_fit : (snapshot : State) → StateFits tables snapshot → (tx : ℕ) (acts : List Act) → AllByRecursion (ActFits tables) acts → AllByRecursion (TransactionFits tables (compiled_blocks c)) (begun src snapshot tx acts)
  unfolding begun
  all_fit snapshot state tx [] fit = tt
  all_fit snapshot state tx (asked ∷ more) fit = ((one_fits snapshot state tx asked fit.0).0, all_fit snapshot state (suc tx) more fit.1)

  no_state_fits : StateFits tables map.empty
  no_state_fits = record { each = λ at fields there. absurd (none-some fields (sym (map.get-empty key_cmp at) ∙ there)) }

  all_light : (tx : ℕ) (acts : List Act) → AllByRecursion (ActFits tables) acts → weights (first_flights src tx acts) ≤ length acts * most_weight
  unfolding first_flights sum_of
  all_light tx [] fit = omega arith
  all_light tx (asked ∷ more) fit =
      by (weight (first_flight src tx asked).next) (weights (first_flights src (suc tx) more)) (length more) (one_fits map.empty no_state_fits tx asked fit.0).1 (all_light (suc tx) more fit.1)
    where
      by : (one rest count : ℕ) → one ≤ 6500000 → rest ≤ count * 6500000 → one + rest ≤ suc count * 6500000
      by one rest count light others = omega (arith, light, others)

  module _ (requests : List Request) (flights : List Flight) (is : flights ≡ first_flights src 0 (acts_of requests)) where
    as_many_acts : length (acts_of requests) ≡ length requests
    as_many_acts = length-map requests (λ (r : Request). r.act)

    pub as_many : length flights ≡ length requests
    as_many = ap length is ∙ as_many_flights src 0 (acts_of requests) ∙ as_many_acts

    pub are_begun : (snapshot : State) → EachTransaction snapshot (firsts src snapshot (acts_of requests)) flights (no_works (length requests))
    are_begun snapshot =
        subst (λ fs. EachTransaction snapshot (firsts src snapshot (acts_of requests)) fs (no_works (length requests))) (sym is)
        (subst (λ n. EachTransaction snapshot (firsts src snapshot (acts_of requests)) (first_flights src 0 (acts_of requests)) (no_works n)) as_many_acts (all_begin src snapshot 0 (acts_of requests)))

    pub are_under_way : AllByRecursion (ActFits tables) (acts_of requests) → (snapshot : State) → StateFits tables snapshot → FlightsFit c snapshot flights (no_works (length requests))
    are_under_way fit snapshot state = record { transactions = firsts src snapshot (acts_of requests); are = are_begun snapshot; fit = all_fit snapshot state 0 (acts_of requests) fit }

    pub are_light : AllByRecursion (ActFits tables) (acts_of requests) → weights flights ≤ length requests * most_weight
    are_light fit = subst (λ fs. weights fs ≤ length requests * most_weight) (sym is) (subst (λ n. weights (first_flights src 0 (acts_of requests)) ≤ n * most_weight) as_many_acts (all_light 0 (acts_of requests) fit))
