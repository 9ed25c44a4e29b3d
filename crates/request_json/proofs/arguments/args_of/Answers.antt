use Rattle.std.proofs.Common.{◌++◌, ◌+◌, ◌∙◌, drop, ap, sym, arith}
use Rattle.std.specs.Option.{option_map}
use Rattle.serde_json.specs.View.{items_view}
use Rattle.program_meaning.specs.Sources.{source_of}
use Rattle.py_tree.specs.PlainProgram.{plain_params}
use Rattle.request_json.specs.Arguments.{args_of}
use Rattle.request_json.proofs.ArgLaws.{args_go, args_stop, args_too_few, args_too_many, args_done}
use Rattle.request_json.proofs.arguments.args_of.Goals as goal

pub returns-then-i-items : goal.returns-then-i-items
returns-then-i-items c = args_too_few (source_of c.args.program.now) c.args.params.now c.args.items.now c.loop-i.i c.loop-i.made c.loop-i.invariant.so_far c.index-params-i.result c.loop-i-test.true c.index-params-i.is c.if-i-items.true

pub returns-in_default : goal.returns-in_default
returns-in_default c = args_stop (source_of c.args.program.now) c.args.params.now c.args.items.now c.loop-i.i c.loop-i.made c.loop-i.invariant.so_far c.index-params-i.result c.index-items-i.result c.loop-i-test.true c.index-params-i.is c.if-i-items.false c.index-items-i.is (sym c.in_ok-value.ensures ∙ c.in_default.is)

pub loop-i-preserved : goal.loop-i-preserved
loop-i-preserved c = record {
  so_far = ap (λ l. option_map (λ vs. l ++ vs) (args_of (source_of c.args.program.now) (plain_params (drop (c.loop-i.i + 1) c.args.params.now)) (items_view (drop (c.loop-i.i + 1) c.args.items.now)))) c.in_ok-push.ensures.ok ∙ (args_go (source_of c.args.program.now) c.args.params.now c.args.items.now c.loop-i.i c.loop-i.made c.loop-i.invariant.so_far c.index-params-i.result c.index-items-i.result c.in-Some.value c.loop-i-test.true c.index-params-i.is c.if-i-items.false c.index-items-i.is (sym c.in_ok-value.ensures ∙ c.in-Some.is));
  within = omega arith;
}

pub returns-then-items-params : goal.returns-then-items-params
returns-then-items-params c = args_too_many (source_of c.args.program.now) c.args.params.now c.args.items.now c.loop-i.i c.loop-i.made c.loop-i.invariant.so_far c.loop-i-test.false (omega (arith, c.loop-i.auto.i-end))

pub returns : goal.returns
returns c = args_done (source_of c.args.program.now) c.args.params.now c.args.items.now c.loop-i.i c.loop-i.made c.loop-i.invariant.so_far c.loop-i-test.false (omega (arith, c.loop-i.auto.i-end))
