use Rattle.std.proofs.Common.{◌≡◌, ◌++◌, length, drop}
use Rattle.std.specs.Vec.Iter.{into_iter_items, into_iter_len}
use Rattle.py_tree.specs.PlainProgram.{plain_params}
use Rattle.program_meaning.specs.Calls.{bound}
use Rattle.source_meaning.proofs.vars.move_args.Given as goal

abbrev pub invariant-loop-param : goal.invariant-loop-param
invariant-loop-param l = record {
  bound : l.vars ++ bound (plain_params (drop l.param-index l.params)) (into_iter_items l.args) ≡ l.initial.vars ++ bound (plain_params l.params) l.fn.args;
  count : into_iter_len l.args ≡ length (into_iter_items l.args);
}
