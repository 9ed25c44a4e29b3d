use Rattle.std.proofs.Common.{◌∙◌, ◌++◌, ◌+◌, drop, sym, ap}
use Rattle.py_tree.specs.PlainProgram.{plain_methods}
use Rattle.py_tree.specs.ClassIndices.{called_places}
use Rattle.py_tree.proofs.IndexLaws.{places_end, place_joins, place_stays}
use Rattle.py_tree.proofs.class_index.called_places.Goals as goal
use Rattle.py_tree.proofs.class_index.called_places.Goals.{then-is_called_by_name+in_ok-push, else-is_called_by_name}

pub loop-at-init : goal.loop-at-init
loop-at-init c = ap (λ places. places ++ called_places c.args.names.now 0 (plain_methods c.args.members.now)) c.new-places.ensures.items

pub loop-at-preserved : goal.loop-at-preserved
loop-at-preserved c =
    let names = c.args.names.now in
    let ms = c.args.members.now in
    let i = c.loop-at.at in
    let m = c.index-members-at.result in
    let all = called_places names 0 (plain_methods ms) in
    elim c.if-is_called_by_name.branch [
      | then-is_called_by_name+in_ok-push w ↦ ap (λ v. v.items ++ called_places names (i + 1) (plain_methods (drop (i + 1) ms))) w.places-is ∙ place_joins names ms i m c.loop-at-test.true c.index-members-at.is c.loop-at.places.items w.push.new.self.items all c.loop-at.invariant w.in_ok-push.ensures.items (sym c.is_called_by_name.ensures ∙ w.if-is_called_by_name.true)
      | else-is_called_by_name w ↦ ap (λ v. v.items ++ called_places names (i + 1) (plain_methods (drop (i + 1) ms))) w.places-is ∙ place_stays names ms i m c.loop-at-test.true c.index-members-at.is c.loop-at.places.items all c.loop-at.invariant (sym c.is_called_by_name.ensures ∙ w.if-is_called_by_name.false)
    ]

pub returns : goal.returns
returns c = sym (places_end c.args.names.now c.args.members.now c.loop-at.places.items c.loop-at.at c.loop-at-test.false) ∙ c.loop-at.invariant
