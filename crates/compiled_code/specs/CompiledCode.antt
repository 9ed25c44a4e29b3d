-- The flat code of an accepted program keeps the rules; so its compiled graph fits it and means it, where the marks are exact.
use Rattle.std.specs.Prelude.{ℕ, Bool, List}
use Rattle.py_tree.specs.PlainProgram.{PlainProgram}
use Rattle.call_graph.specs.Marks.{IsGraph}
use Rattle.program_meaning.specs.NothingGoesWrong.{IsKnownAccepted}
use Rattle.block_code.specs.GraphFits.{GraphFits}
use Rattle.request_events.specs.GraphMeans.{GraphMeans}
use Rattle.compiled_graph.specs.CompiledGraph.{compiled}
use Rattle.compiled_graph.specs.CodeKeepsRules.{CodeKeepsRules}

-- whichever calls the marks say suspend
abbrev pub AcceptedCodeKeepsRules : Type 0
AcceptedCodeKeepsRules =
    (names : List (List ℕ)) (program : PlainProgram) (marks : List (List Bool)) → IsKnownAccepted names program
    → CodeKeepsRules names program marks

-- where the marks are exact the compiled graph fits the program
abbrev pub AcceptedGraphFits : Type 0
AcceptedGraphFits =
    (names : List (List ℕ)) (program : PlainProgram) (marks : List (List Bool)) → IsKnownAccepted names program → IsGraph names program marks
    → GraphFits names program (compiled names program marks)

-- and means it
abbrev pub AcceptedGraphMeans : Type 0
AcceptedGraphMeans =
    (names : List (List ℕ)) (program : PlainProgram) (marks : List (List Bool)) → IsKnownAccepted names program → IsGraph names program marks
    → GraphMeans names program (compiled names program marks)
