use Rattle.std.proofs.Common.{◌∙◌, ◌+◌, map, drop, sym, ap}
use Rattle.std.specs.Prelude.{slice_get}
use Rattle.py_tree.specs.PlainProgram.{plain_method}
use Rattle.py_tree.specs.ClassRules.{methods_of}
use Rattle.flow_types.proofs.MethodLaws.{is_method, no_method, found_later}
use Rattle.flow_types.proofs.program.method_of.Goals as goal
use Rattle.flow_types.proofs.program.method_of.Goals.{then-is_called_by_name+else-left-eq0, else-is_called_by_name}

pub loop-member-preserved : goal.loop-member-preserved
loop-member-preserved c =
    let names = c.args.names.now in
    let members = c.args.members.now in
    let i = c.loop-member.member-index in
    let member = c.member-item.result in
    let left = c.loop-member.left in
    let rest = methods_of names (map plain_method (drop (i + 1) members)) in
    elim c.if-is_called_by_name.branch [
      | then-is_called_by_name+else-left-eq0 w ↦
          c.loop-member.invariant ∙ ap (λ xs. slice_get xs left) (is_method names members i member c.loop-member-test.true c.member-item.is (sym c.is_called_by_name.ensures ∙ w.if-is_called_by_name.true))
          ∙ found_later (plain_method member) rest left w.if-left-eq0.false ∙ ap (slice_get rest) (sym w.left-is)
      | else-is_called_by_name w ↦
          c.loop-member.invariant ∙ ap (λ xs. slice_get xs left) (no_method names members i member c.loop-member-test.true c.member-item.is (sym c.is_called_by_name.ensures ∙ w.if-is_called_by_name.false)) ∙ ap (slice_get rest) (sym w.left-is)
    ]
