use Rattle.std.proofs.Common.{if◌then◌else◌, true≢false, refl, sym, ap}
use Rattle.request_history.proofs.RepeatLaws.{acts_same, acts_differ}
use Rattle.engine.specs.declared.arrival.Arrival.TheVariants as arrival
use Rattle.engine.proofs.arriving.by_content.Goals as goal

pub returns-then-same : goal.returns-then-same
returns-then-same c = sym (ap (λ t. if t then c.args.same else arrival.Reused) (acts_same c.args.other.now c.args.request.now.act (c.if-same.ensures.0 refl)))

pub returns-else-same : goal.returns-else-same
returns-else-same c = sym (ap (λ t. if t then c.args.same else arrival.Reused) (acts_differ c.args.other.now c.args.request.now.act (λ e. true≢false (sym (c.if-same.ensures.1 e)))))
