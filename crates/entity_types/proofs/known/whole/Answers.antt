use Rattle.std.proofs.Common.{arith, ap}
use Rattle.entity_types.specs.Scopes.{plain_scope}
use Rattle.entity_types.proofs.ScopeLaws.{all_known}
use Rattle.entity_types.proofs.known.whole.Goals as goal

pub returns : goal.returns
unfolding plain_scope
returns c =
    let env = c.args.env.now in
    ap (λ locals. record { class = env.class; method = env.method; locals = locals }) (all_known env.locals _ c.loop-local.local-index c.loop-local.not_none c.as_slice-local-items.ensures (omega arith) c.loop-local.invariant)
