-- The events of the transactions of a batch are few.
use Rattle.std.proofs.Common.{◌≡◌, ℕ, suc, arith, ◌*◌, ◌≤◌, ◌<◌, false, List, [], ◌∷◌, length, subst, sym}
use Rattle.std.specs.List.{AllByRecursion}
use Rattle.py_tree.specs.PlainProgram.{PlainProgram}
use Rattle.py_tree.specs.ClassRules.{PlainTable, tables_of}
use Rattle.sf_value.specs.declared.Act.{Act}
use Rattle.program_meaning.specs.ClassTables.{Source}
use Rattle.program_meaning.specs.World.{State}
use Rattle.program_meaning.specs.Fits.{StateFits, ActFits}
use Rattle.program_meaning.specs.NothingGoesWrong.{IsKnownAccepted}
use Rattle.block_code.specs.PlainBlocks.{PlainBlock}
use Rattle.block_code.specs.GraphFits.{GraphFits}
use Rattle.block_runs.specs.StepFalls.{weight}
use Rattle.interleaving.specs.AsAlone.{sum_of}
use Rattle.transaction_steps.specs.Transactions.{Transaction, first_of, begun, firsts, handled, is_done}
use Rattle.transaction_steps.specs.GoingOn.{TransactionFits, GoesOn, most_weight}
use Rattle.transaction_steps.proofs.GoingOn.{transactions_begin, transactions_go_on}
use Rattle.few_events.specs.FewEvents.{in_turns, EventsAreFew}
use Rattle.few_events.proofs.LighterTurns.{all_turns}

abbrev weighs : Transaction → ℕ
weighs t = weight t.next

module _ (names : List (List ℕ)) (program : PlainProgram) (accepted : IsKnownAccepted names program) (graph : List (List PlainBlock)) (fits : GraphFits names program graph) where
  abbrev src : Source
  src = record { program = program; names = names }

  abbrev tables : List PlainTable
  tables = tables_of names program

  abbrev Fit : Transaction → Type 0
  Fit t = TransactionFits tables graph t

  lighter : (t : Transaction) → Fit t → is_done t.next.kind ≡ false → Fit (handled src tables graph t) × (weighs (handled src tables graph t) < weighs t)
  lighter t fit runs =
      let on : GoesOn src tables graph t = transactions_go_on names program accepted graph fits t fit runs in
      (on.kept, subst (λ (u : Transaction). weighs u < weighs t) (sym on.is) on.lighter)

  -- where they begin
  record Begins (batch : List Act) (ts : List Transaction) : Type 0 where
    fit : AllByRecursion Fit ts
    light : sum_of weighs ts ≤ length batch * most_weight

  begins : (snapshot : State) → StateFits tables snapshot → (tx : ℕ) (batch : List Act) → AllByRecursion (ActFits tables) batch → Begins batch (begun src snapshot tx batch)
  unfolding begun sum_of
  begins snapshot state tx [] fit = record { fit = tt; light = omega arith }
  begins snapshot state tx (asked ∷ later) fit =
      let one : Fit (first_of src snapshot tx asked) × (weighs (first_of src snapshot tx asked) ≤ most_weight) = transactions_begin names program graph snapshot state tx asked fit.0 in
      let rest : Begins later (begun src snapshot (suc tx) later) = begins snapshot state (suc tx) later fit.1 in
      record { fit = (one.0, rest.fit); light = omega (arith, one.1, rest.light) }

pub events_are_few : {N : Type 0} → EventsAreFew N
events_are_few names program accepted graph fits snapshot state batch fit note picks =
    let b : Begins names program accepted graph fits batch (firsts (record { program = program; names = names }) snapshot batch) = begins names program accepted graph fits snapshot state 0 batch fit in
    let f = all_turns (in_turns (record { program = program; names = names }) (tables_of names program) graph note) (λ t. TransactionFits (tables_of names program) graph t) weighs
    (lighter names program accepted graph fits) picks (firsts (record { program = program; names = names }) snapshot batch) b.fit in
    omega (arith, f.less, b.light)
