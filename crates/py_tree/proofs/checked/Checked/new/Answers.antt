use Rattle.std.proofs.Common.{List, ℕ, ap, subst, ◌∙◌, map}
use Rattle.py_tree.specs.declared.program.Class.{Class}
use Rattle.py_tree.specs.PlainProgram.{plain_classes}
use Rattle.py_tree.specs.ClassViews.{numbers_of}
use Rattle.py_tree.specs.ClassIndices.{HasPlaces, AreIndices}
use Rattle.py_tree.proofs.checked.Checked.new.Goals as goal

pub invariant_of-result-clause-has_classes : goal.invariant_of-result-clause-has_classes
invariant_of-result-clause-has_classes c =
    subst (HasPlaces c.in_ok-classes.classes)
    (ap numbers_of c.as_slice-2.ensures.value ∙ c.in_ok-class_names.ensures ∙ ap (λ (cs : List Class). map (λ c. c.name) (plain_classes cs)) c.as_slice.ensures)
    c.in_ok-classes.ensures

pub invariant_of-result-clause-are_indices : goal.invariant_of-result-clause-are_indices
invariant_of-result-clause-are_indices c = subst (λ (cs : List Class). AreIndices c.args.names (plain_classes cs) c.in_ok-indices.indices.items) c.as_slice-3.ensures c.in_ok-indices.ensures
