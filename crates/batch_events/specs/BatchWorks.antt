-- What a rule commits of a batch whose events took turns is a serial run.
use Rattle.std.specs.Prelude.{◌≡◌, ℕ, List}
use Rattle.std.specs.List.{AllByRecursion}
use Rattle.py_tree.specs.PlainProgram.{PlainProgram}
use Rattle.py_tree.specs.ClassRules.{tables_of}
use Rattle.sf_value.specs.declared.Act.{Act}
use Rattle.program_meaning.specs.World.{State}
use Rattle.program_meaning.specs.Fits.{StateFits, ActFits}
use Rattle.program_meaning.specs.NothingGoesWrong.{IsKnownAccepted}
use Rattle.keyed_state.specs.declared.Work.{Work}
use Rattle.reservations.specs.Accesses.{accesses_of}
use Rattle.reservations.specs.CommitRules.{Chosen, IsLawful}
use Rattle.commit_order.specs.CommittedSerial.{IsSerial}
use Rattle.block_code.specs.PlainBlocks.{PlainBlock}
use Rattle.block_code.specs.GraphFits.{GraphFits}
use Rattle.request_events.specs.GraphMeans.{GraphMeans}
use Rattle.quiet_methods.specs.MarksKeepWithin.{source}
use Rattle.operator_graph.specs.BatchEvents.{batch_after, batch_running}
use Rattle.operator_graph.specs.BufferedWorks.{EachBuffers}

-- whatever the picks and the number of partitions: once all are over, what a lawful rule commits is a serial run on the snapshot
abbrev pub CommittedAlongPicksIsSerial : Type 0
CommittedAlongPicksIsSerial = (names : List (List ℕ)) (program : PlainProgram) → IsKnownAccepted names program → (graph : List (List PlainBlock)) → GraphFits names program graph → GraphMeans names program graph
    → (snapshot : State) → StateFits (tables_of names program) snapshot → (batch : List Act) → AllByRecursion (ActFits (tables_of names program)) batch
    → (parts : ℕ) (picks : List ℕ) → batch_running (source names program) (tables_of names program) graph snapshot batch parts picks ≡ 0
    → (works : List Work) → EachBuffers (batch_after (source names program) (tables_of names program) graph snapshot batch parts picks) works
    → (chosen : Chosen) → IsLawful (accesses_of works) chosen → IsSerial (source names program) snapshot batch works chosen.committed
