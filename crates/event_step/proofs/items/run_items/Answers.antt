use Rattle.std.proofs.Common.{subst}
use Rattle.block_code.specs.PlainBlocks.{plain_item}
use Rattle.source_meaning.specs.declared.here.Ended.TheVariants as ended
use Rattle.event_step.specs.Running.{site_of, held_of}
use Rattle.event_step.specs.ItemEnds.{EndsNow, item_at}
use Rattle.event_step.proofs.ItemLaws.{leads_on, item_goes, item_returns, item_fails, no_item_left}
use Rattle.event_step.proofs.items.run_items.Goals as goal

pub loop-item-preserved : goal.loop-item-preserved
loop-item-preserved c =
    leads_on
    (item_goes (site_of c.args.place.now) c.args.items.now c.loop-item.item-index c.item-item.result c.loop-item-test.true c.item-item.is c.loop-item.running.vars (held_of c.loop-item.running) c.loop-item.running.steps c.run_item.new.running.vars (held_of c.run_item.new.running) c.run_item.new.running.steps
    (subst (λ x. EndsNow x c.run_item.new.running (item_at c.args.place.now (plain_item c.item-item.result) c.loop-item.running)) c.in-On.is c.in_ok-run_item.ensures))
    c.loop-item.invariant

pub returns-in-Returned : goal.returns-in-Returned
returns-in-Returned c =
    c.loop-item.invariant.by (ended.Returned c.in-Returned.value) c.run_item.new.running.vars (held_of c.run_item.new.running) c.run_item.new.running.steps
    (item_returns (site_of c.args.place.now) c.args.items.now c.loop-item.item-index c.item-item.result c.loop-item-test.true c.item-item.is c.loop-item.running.vars (held_of c.loop-item.running) c.loop-item.running.steps c.in-Returned.value c.run_item.new.running.vars (held_of c.run_item.new.running) c.run_item.new.running.steps
    (subst (λ x. EndsNow x c.run_item.new.running (item_at c.args.place.now (plain_item c.item-item.result) c.loop-item.running)) c.in-Returned.is c.in_ok-run_item.ensures))

pub returns-in-Failed : goal.returns-in-Failed
returns-in-Failed c =
    c.loop-item.invariant.by (ended.Failed c.in-Failed.failure) c.run_item.new.running.vars (held_of c.run_item.new.running) c.run_item.new.running.steps
    (item_fails (site_of c.args.place.now) c.args.items.now c.loop-item.item-index c.item-item.result c.loop-item-test.true c.item-item.is c.loop-item.running.vars (held_of c.loop-item.running) c.loop-item.running.steps c.in-Failed.failure c.run_item.new.running.vars (held_of c.run_item.new.running) c.run_item.new.running.steps
    (subst (λ x. EndsNow x c.run_item.new.running (item_at c.args.place.now (plain_item c.item-item.result) c.loop-item.running)) c.in-Failed.is c.in_ok-run_item.ensures))

pub returns : goal.returns
returns c =
    c.loop-item.invariant.by ended.On c.loop-item.running.vars (held_of c.loop-item.running) c.loop-item.running.steps
    (no_item_left (site_of c.args.place.now) c.args.items.now c.loop-item.item-index c.loop-item.running.vars (held_of c.loop-item.running) c.loop-item.running.steps c.loop-item-test.false)
