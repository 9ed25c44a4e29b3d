-- How many events the transactions of a batch handle at most.
use Rattle.std.specs.Prelude.{ℕ, ◌*◌, ◌≤◌, List, length}
use Rattle.std.specs.List.{AllByRecursion}
use Rattle.py_tree.specs.PlainProgram.{PlainProgram}
use Rattle.py_tree.specs.ClassRules.{PlainTable, tables_of}
use Rattle.sf_value.specs.declared.Act.{Act}
use Rattle.program_meaning.specs.ClassTables.{Source}
use Rattle.program_meaning.specs.World.{State}
use Rattle.program_meaning.specs.Fits.{StateFits, ActFits}
use Rattle.program_meaning.specs.NothingGoesWrong.{IsKnownAccepted}
use Rattle.block_code.specs.PlainBlocks.{PlainBlock}
use Rattle.block_code.specs.GraphFits.{GraphFits}
use Rattle.interleaving.specs.Turns.{Parts, along}
use Rattle.transaction_steps.specs.Transactions.{Transaction, firsts, handled, is_done}
use Rattle.transaction_steps.specs.GoingOn.{most_weight}

-- transactions that take turns; what is noted of an event is left open
abbrev pub in_turns : {N : Type 0} → Source → List PlainTable → List (List PlainBlock) → (Transaction → N) → Parts Transaction N
in_turns src tables graph note = record { step = handled src tables graph; is_over = λ t. is_done t.next.kind; note = note }

-- of a batch whose requests fit, on a snapshot that fits, no more events are noted along any picks than so many for each request
abbrev pub EventsAreFew : Type 0 → Type 0
EventsAreFew N = (names : List (List ℕ)) (program : PlainProgram) → IsKnownAccepted names program → (graph : List (List PlainBlock)) → GraphFits names program graph
    → (snapshot : State) → StateFits (tables_of names program) snapshot → (batch : List Act) → AllByRecursion (ActFits (tables_of names program)) batch
    → (note : Transaction → N) (picks : List ℕ)
    → length (along (in_turns (record { program = program; names = names }) (tables_of names program) graph note) picks (firsts (record { program = program; names = names }) snapshot batch)) ≤ length batch * most_weight
