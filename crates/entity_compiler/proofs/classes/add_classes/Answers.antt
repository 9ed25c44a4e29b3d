use Rattle.std.proofs.Common.{arith, ◌∙◌, sym}
use Rattle.block_code.specs.PlainBlocks.{plain_methods}
use Rattle.entity_compiler.specs.Marked.{names_of, classes_of}
use Rattle.entity_compiler.proofs.BlocksInRow.{class_more, class_none}
use Rattle.entity_compiler.proofs.classes.add_classes.Goals as goal

pub loop-class-preserved : goal.loop-class-preserved
loop-class-preserved c =
    let marked = c.args.marked.now in
    class_more (names_of marked) (classes_of marked) marked.calls.now c.loop-class.class (plain_methods c.loop-class.made) (plain_methods c.add_methods.new.made) _ (omega (arith, c.loop-class-test.true, c.class_count-class-end.ensures))
    c.loop-class.invariant c.in_ok-add_methods.ensures

pub returns : goal.returns
returns c =
    let marked = c.args.marked.now in
    sym (class_none (names_of marked) (classes_of marked) marked.calls.now c.loop-class.class (plain_methods c.loop-class.made) (omega (arith, c.loop-class-test.false, c.class_count-class-end.ensures))) ∙ c.loop-class.invariant
