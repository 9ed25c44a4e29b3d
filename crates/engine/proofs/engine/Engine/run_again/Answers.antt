use Rattle.std.proofs.Common.{length, ap, sym, ◌∙◌, ◌++◌, subst, arith}
use Rattle.std.specs.List.{AllByRecursion, range_with_len}
use Rattle.std.proofs.lemmas.List.{length-map}
use Rattle.sf_value.specs.declared.Request.{Request}
use Rattle.program_meaning.specs.Fits.{StateFits, ActFits}
use Rattle.program_meaning.specs.Serial.{serial_state}
use Rattle.request_history.specs.SoundHistory.{RequestFits}
use Rattle.keyed_state.specs.Works.{are_places}
use Rattle.ordered_runs.specs.Vocabulary.{acts_of}
use Rattle.ordered_runs.proofs.PlaceLaws.{all_places}
use Rattle.engine.specs.EngineViews.{core_of, source_of, tables_of}
use Rattle.engine.specs.Batches.{requests_at, other_places}
use Rattle.engine.specs.Copying.{entries_at}
use Rattle.engine.specs.Replays.{serial_entries}
use Rattle.engine.proofs.PlaceLaws.{each_at}
use Rattle.engine.proofs.RunLaws.{asked_fit}
use Rattle.engine.proofs.ReplayLaws.{entries_in_order, listed_few}
use Rattle.engine.proofs.engine.Engine.run_again.Goals as goal

pub run_in_order-requires-clause-few : goal.run_in_order-requires-clause-few
run_in_order-requires-clause-few c =
    let listed = ap length (c.in_ok-listed.ensures ∙ ap (requests_at c.args.waiting.now) c.as_slice.ensures) in
    omega (arith, listed, listed_few c.args.waiting.now c.args.committed.now c.requires.once, c.requires.few)

pub run_in_order-requires-clause-state : goal.run_in_order-requires-clause-state
run_in_order-requires-clause-state c = subst (λ ts. StateFits ts (core_of c.args.self.now).state) (sym c.requires.whole.has_tables) c.requires.state

pub run_in_order-requires-clause-fit : goal.run_in_order-requires-clause-fit
run_in_order-requires-clause-fit c =
    let listed = c.in_ok-listed.ensures ∙ ap (requests_at c.args.waiting.now) c.as_slice.ensures in
    let tables = tables_of c.args.self.now in
    subst (λ ts. AllByRecursion (ActFits ts) (acts_of c.in_ok-listed.listed)) (sym c.requires.whole.has_tables)
    (asked_fit tables c.in_ok-listed.listed (subst (AllByRecursion (RequestFits tables)) (sym listed) (each_at (RequestFits tables) c.args.waiting.now c.requires.fit c.args.committed.now)))

pub returns : goal.returns
returns c =
    let src = source_of c.args.self.now in
    let core = core_of c.args.self.now in
    let listed = c.in_ok-listed.ensures ∙ ap (requests_at c.args.waiting.now) c.as_slice.ensures in
    let ran = c.in_ok-outcomes.ensures in
    let count = length-map c.in_ok-listed.listed (λ (r : Request). r.act) in
    let entries =
    c.in_ok-entries.ensures
    ∙ (λ i. entries_at c.in_ok-listed.listed (ran.outcomes i) ((c.as_slice-3.ensures ∙ ran.places ∙ ap (range_with_len 0) count) i))
    ∙ entries_in_order src c.in_ok-listed.listed core.state
    ∙ ap (serial_entries src core.state) listed in
    let writes = ran.state ∙ ap (λ rs. serial_state src core.state (acts_of rs)) listed in
    let carried = c.in_ok-carried.ensures ∙ ap (λ ps. requests_at c.args.waiting.now (other_places (length c.args.waiting.now) ps)) c.as_slice-2.ensures in
    record {
      entries = entries;
      there = (λ i. are_places (ran.works i) (ran.places i)) ∙ all_places (length (acts_of c.in_ok-listed.listed));
      behind = λ i. record { history = core.history ++ entries i; state = writes i; pending = carried i };
    }
