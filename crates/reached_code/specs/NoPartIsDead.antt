-- That no part of a hoisted method is dead.
use Rattle.std.specs.Prelude.{ℕ, List}
use Rattle.std.specs.declared.option.Option.{Option}
use Rattle.py_tree.specs.FlowEnvironment.{PlainLocal}
use Rattle.py_tree.specs.Flow.{Context}
use Rattle.py_tree.specs.PlainProgram.{PlainMethod}
use Rattle.call_graph.specs.SuspendingCode.{Leaving}
use Rattle.flat_tree.specs.PlainFlat.{flat_stmts_of}
use Rattle.flat_types.specs.DeadCode.{HaveNoDead}
use Rattle.hoisting.specs.HoistMethods.{flat_body}

-- whichever calls are said to suspend, and whatever is known where the method begins; the method needn't keep any rule
abbrev pub NoPartIsDead : Type 0
NoPartIsDead =
    (leaves : Leaving) (c : Context) (locals : List PlainLocal) (count : ℕ) (method : Option PlainMethod)
    → HaveNoDead (flat_stmts_of (flat_body leaves c locals count method))
