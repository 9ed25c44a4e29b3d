-- The flat method of each method of a program.
--
-- Calls are taken out of a body from where the rules on statements begin, with all locals that they find: the parameters are
-- assigned, and any other local has its type and no value yet. Temporaries have numbers behind those of the names.
use Rattle.std.specs.Prelude.{ℕ, Bool, List, [], map, length, Some, Result, Ok, Err}
use Rattle.py_tree.specs.declared.rule.RuleFault.{RuleFault}
use Rattle.py_tree.specs.PlainProgram.{PlainMethod, PlainProgram}
use Rattle.py_tree.specs.ClassRules.{sig_of, tables_of}
use Rattle.py_tree.specs.FlowEnvironment.{PlainLocal}
use Rattle.py_tree.specs.Flow.{Context, in_method, method_locals}
use Rattle.call_graph.specs.SuspendingCode.{leaving}
use Rattle.block_code.specs.GraphFits.{var_of_param}
use Rattle.flat_tree.specs.PlainFlat.{PlainFlat}
use Rattle.hoisting.specs.HoistMethods.{flat_body}

-- locals that were found; a method that breaks a rule has none
abbrev pub found_locals : Result (List PlainLocal) RuleFault → List PlainLocal
found_locals (Ok locals) = locals
found_locals (Err f) = []

module _ (names : List (List ℕ)) (program : PlainProgram) where
  -- where the method of this number stands, in the class of that number
  abbrev pub context_of : (class number : ℕ) → Context
  context_of class number = in_method (tables_of names program) class number

  -- its locals as they are where its body begins
  abbrev pub start_locals : (class number : ℕ) → PlainMethod → List PlainLocal
  start_locals class number m = found_locals (method_locals (tables_of names program) class number m)

  -- with the marks of the methods that suspend
  module _ (marks : List (List Bool)) where
    abbrev pub flat_method : (class number : ℕ) → PlainMethod → PlainFlat
    flat_method class number m = record {
      params = map var_of_param (sig_of m).params;
      body = flat_body (leaving names program marks class) (context_of class number) (start_locals class number m) (length names) (Some m);
    }
