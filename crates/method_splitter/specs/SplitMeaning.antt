-- The blocks of a flat method mean the flat method.
use Rattle.std.specs.Prelude.{ℕ, List}
use Rattle.py_tree.specs.PlainProgram.{PlainParam}
use Rattle.call_graph.specs.SuspendingCode.{Leaving}
use Rattle.sf_value.specs.declared.value.Value.{Value}
use Rattle.program_meaning.specs.World.{World}
use Rattle.program_meaning.specs.Evaluation.{Site}
use Rattle.program_meaning.specs.Calls.{bound}
use Rattle.program_meaning.specs.StepsLeft.{CallsTakeSteps}
use Rattle.block_runs.specs.BlockRuns.{ComesTo}
use Rattle.flat_tree.specs.PlainFlat.{PlainFlat, flat_stmts_of}
use Rattle.flat_tree.specs.FlatMeaning.{run_flat}
use Rattle.flat_tree.specs.Flatness.{AreFlat}
use Rattle.method_splitter.specs.Callees.{CalleesAreNamed}
use Rattle.method_splitter.specs.Split.{split_blocks}

-- In any program, and for each entity, state, arguments and steps, the blocks of flat code come to what it comes to, and leave the same
-- reads, writes and steps, whatever calls do that give no steps back. The numbers of callees have to be those of their names.
abbrev pub BlocksMeanFlat : Type 0
BlocksMeanFlat =
    (leaves : Leaving) (s : Site World) → CallsTakeSteps s.calls
    → (flat : PlainFlat) → AreFlat leaves (flat_stmts_of flat.body) → CalleesAreNamed s.src (flat_stmts_of flat.body)
    → (params : List PlainParam) (args : List Value) (w : World) (n : ℕ)
    → ComesTo s (split_blocks flat) (bound params args) w n (run_flat s params flat.body args w n)
