use Rattle.std.proofs.Common.{◌+◌, List, [], ◌∷◌, ◌++◌, take, sym, subst}
use Rattle.std.proofs.lemmas.List.{take_all}
use Rattle.py_tree.specs.declared.program.Method.{Method}
use Rattle.py_tree.specs.PlainProgram.{plain_class, plain_classes, plain_methods}
use Rattle.py_tree.specs.ClassIndices.{IsIndex, AreIndices}
use Rattle.py_tree.proofs.ListWalks.{map_more}
use Rattle.py_tree.proofs.IndexLaws.{Kept, kept_more, none_kept, are_indices}
use Rattle.py_tree.proofs.class_index.indices_of.Goals as goal

pub loop-class-preserved : goal.loop-class-preserved
loop-class-preserved c =
    let names = c.args.names.now in
    let cs = c.args.classes.now in
    let i = c.loop-class.class-index in
    let class = c.class-item.result in
    let index = c.in_ok-index_of.field-0 in
    let is : IsIndex names (plain_methods class.members) index = subst (λ (ms : List Method). IsIndex names (plain_methods ms) index) c.as_slice.ensures c.in_ok-index_of.ensures in
    subst (Kept names (plain_classes (take (i + 1) cs))) (sym c.in_ok-push.ensures.items)
    (subst (λ ps. Kept names ps (c.loop-class.indices.items ++ index ∷ [])) (sym (map_more plain_class cs i class c.loop-class-test.true c.class-item.is))
    (kept_more names (plain_classes (take i cs)) c.loop-class.indices.items (plain_class class) index c.loop-class.invariant is))

pub loop-class-init : goal.loop-class-init
loop-class-init c = subst (Kept c.args.names.now []) (sym c.new-indices.ensures.items) (none_kept c.args.names.now)

pub returns : goal.returns
returns c =
    let cs = c.args.classes.now in
    are_indices c.args.names.now (plain_classes cs) c.loop-class.indices.items
    (subst (λ xs. Kept c.args.names.now (plain_classes xs) c.loop-class.indices.items) (take_all c.loop-class.class-index cs c.loop-class-test.false) c.loop-class.invariant)
