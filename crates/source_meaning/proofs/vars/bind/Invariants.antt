use Rattle.std.proofs.Common.{◌≡◌, ◌++◌, drop}
use Rattle.py_tree.specs.PlainProgram.{plain_params}
use Rattle.program_meaning.specs.Calls.{bound}
use Rattle.source_meaning.proofs.vars.bind.Given as goal

abbrev pub invariant-loop-i : goal.invariant-loop-i
invariant-loop-i l = l.vars ++ bound (plain_params (drop l.i l.params)) (drop l.i l.args) ≡ bound (plain_params l.params) l.args
