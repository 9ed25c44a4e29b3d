use Rattle.std.proofs.Common.{arith, ◌∙◌}
use Rattle.entity_compiler.specs.Marked.{names_of, classes_of}
use Rattle.entity_compiler.proofs.Counts.{many_classes, few}
use Rattle.entity_compiler.proofs.classes.class_count.Goals as goal

pub overflow_cast-result : goal.overflow_cast-result
overflow_cast-result c =
    let marked = c.args.marked.now in
    let small = few (names_of marked) (classes_of marked) marked.tables.now c.requires marked.program.now.rules.classes in
    omega (arith, small, c.len.ensures)

pub returns : goal.returns
returns c =
    let marked = c.args.marked.now in
    c.len.ensures ∙ many_classes (names_of marked) (classes_of marked) marked.tables.now c.requires
