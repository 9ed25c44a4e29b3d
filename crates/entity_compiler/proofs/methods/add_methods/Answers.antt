use Rattle.std.proofs.Common.{arith, ◌∙◌, sym, ap}
use Rattle.std.specs.Prelude.{is_some}
use Rattle.block_code.specs.PlainBlocks.{plain_methods}
use Rattle.entity_compiler.specs.Marked.{names_of, classes_of, methods_at}
use Rattle.entity_compiler.proofs.BlocksInRow.{there_is, method_more, method_none}
use Rattle.entity_compiler.proofs.methods.add_methods.Goals as goal

pub method_blocks-requires-clause-method : goal.method_blocks-requires-clause-method
method_blocks-requires-clause-method c =
    let there = there_is (methods_at c.args.marked.now c.args.class) c.loop-method.method (omega (arith, c.loop-method-test.true, c.requires.count)) in
    ap is_some there.1

pub loop-method-preserved : goal.loop-method-preserved
loop-method-preserved c =
    let marked = c.args.marked.now in
    let methods = methods_at marked c.args.class in
    let there = there_is methods c.loop-method.method (omega (arith, c.loop-method-test.true, c.requires.count)) in
    method_more (names_of marked) (classes_of marked) marked.calls.now c.args.class methods c.loop-method.method there.0 c.in_ok-blocks.blocks c.loop-method.made c.push.new.self _
    there.1 (c.in_ok-blocks.ensures there.0 there.1) c.loop-method.invariant c.in_ok-push.ensures.ok

pub returns : goal.returns
returns c =
    let marked = c.args.marked.now in
    let methods = methods_at marked c.args.class in
    sym (method_none (names_of marked) (classes_of marked) marked.calls.now c.args.class methods c.loop-method.method (plain_methods c.loop-method.made) (omega (arith, c.loop-method-test.false, c.requires.count))) ∙ c.loop-method.invariant
