use Rattle.std.proofs.Common.{sym, ◌∙◌, subst, true≢false, rules}
use Rattle.std.specs.Vec.Iter.{into_iter_items}
use Rattle.kept_parts.proofs.RecordLaws.{HasPut, next_put, next_twice}
use Rattle.kept_parts.proofs.making.state_of.Goals as goal

pub returns-then-not-branch : goal.returns-then-not-branch
returns-then-not-branch c =
    let so_far = subst (λ l. HasPut c.loop-held.state l c.args.records) c.in-Some.ensures.steps.0 c.loop-held.invariant.put in
    next_twice c.loop-held.state c.in-Some.held (into_iter_items c.next.new.self) c.args.records so_far (λ none. true≢false (sym (c.in_ok-put_new.ensures.new.1 none) ∙ c.if-not-branch.true))

pub loop-held-preserved : goal.loop-held-preserved
loop-held-preserved c =
    let so_far = subst (λ l. HasPut c.loop-held.state l c.args.records) c.in-Some.ensures.steps.0 c.loop-held.invariant.put in
    record {
      put = next_put c.loop-held.state c.in-Some.held (into_iter_items c.next.new.self) c.args.records so_far c.put_new.new.self (c.in_ok-put_new.ensures.new.0 c.if-not-branch.false) c.in_ok-put_new.ensures.ok;
      count = search rules;
    }
