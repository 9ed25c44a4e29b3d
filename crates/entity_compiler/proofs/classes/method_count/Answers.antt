use Rattle.std.proofs.Common.{arith, ◌∙◌, sym}
use Rattle.entity_compiler.specs.Marked.{names_of, classes_of}
use Rattle.entity_compiler.proofs.Counts.{many_methods, no_methods, few_in_class}
use Rattle.entity_compiler.proofs.classes.method_count.Goals as goal

pub overflow_cast-result : goal.overflow_cast-result
overflow_cast-result c =
    let marked = c.args.marked.now in
    let many = many_methods (names_of marked) (classes_of marked) marked.tables.now c.requires c.args.class c.in-Some.table.now (sym c.in-Some.ensures.value) in
    let small = few_in_class (names_of marked) (classes_of marked) marked.tables.now c.requires marked.program.now.rules.classes c.args.class in
    omega (arith, small, many, c.len.ensures)

pub returns-in-Some : goal.returns-in-Some
returns-in-Some c =
    let marked = c.args.marked.now in
    c.len.ensures ∙ many_methods (names_of marked) (classes_of marked) marked.tables.now c.requires c.args.class c.in-Some.table.now (sym c.in-Some.ensures.value)

pub returns-in-None : goal.returns-in-None
returns-in-None c =
    let marked = c.args.marked.now in
    no_methods (names_of marked) (classes_of marked) marked.tables.now c.requires c.args.class (sym c.in-None.ensures.value)
