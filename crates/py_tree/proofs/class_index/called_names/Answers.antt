use Rattle.std.proofs.Common.{◌∙◌, sym, ap, subst, map}
use Rattle.py_tree.specs.ClassViews.{numbers_of}
use Rattle.py_tree.proofs.IndexLaws.{no_names, name_joins, name_stays}
use Rattle.py_tree.proofs.class_index.called_names.Goals as goal
use Rattle.py_tree.proofs.class_index.called_names.Goals.{then-is_called_by_name+in_ok-push, else-is_called_by_name}

pub loop-member-init : goal.loop-member-init
loop-member-init c = ap numbers_of c.new-called.ensures.items ∙ no_names c.args.names.now

pub loop-member-preserved : goal.loop-member-preserved
loop-member-preserved c =
    let names = c.args.names.now in
    let ms = c.args.members.now in
    let i = c.loop-member.member-index in
    let m = c.member-item.result in
    elim c.if-is_called_by_name.branch [
      | then-is_called_by_name+in_ok-push w ↦ ap (λ v. numbers_of v.items) w.called-is ∙ name_joins names ms i m c.loop-member-test.true c.member-item.is c.loop-member.called.items w.push.new.self.items c.loop-member.invariant w.in_ok-push.ensures.items (sym c.is_called_by_name.ensures ∙ w.if-is_called_by_name.true)
      | else-is_called_by_name w ↦ ap (λ v. numbers_of v.items) w.called-is ∙ name_stays names ms i m c.loop-member-test.true c.member-item.is c.loop-member.called.items c.loop-member.invariant (sym c.is_called_by_name.ensures ∙ w.if-is_called_by_name.false)
    ]
