use Rattle.std.proofs.Common.{◌≡◌, drop}
use Rattle.py_tree.specs.PlainExpressions.{plain_exprs, exprs_of}
use Rattle.event_step.specs.Values.{added_at}
use Rattle.event_step.proofs.values.add_values.Given as goal

abbrev pub invariant-loop-expr : goal.invariant-loop-expr
invariant-loop-expr l = record {
  added : added_at l.place (exprs_of (plain_exprs (drop l.expr-index l.exprs))) l.values l.running ≡ added_at l.place (exprs_of (plain_exprs l.exprs)) l.initial.values l.initial.running;
  vars : l.running.vars ≡ l.initial.running.vars;
}
