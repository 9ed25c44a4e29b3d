use Rattle.std.proofs.Common.{◌∷◌, [], sym, subst}
use Rattle.sf_bytes.specs.ByteForms.{value_bytes, failure_bytes, outcome_bytes}
use Rattle.sf_bytes.proofs.Layers.{on_ok}
use Rattle.sf_bytes.proofs.requests.put_outcome.Goals as goal

pub returns-in_ok-put-in-Value-clause-all : goal.returns-in_ok-put-in-Value-clause-all
unfolding outcome_bytes
returns-in_ok-put-in-Value-clause-all g c =
    let puts = g.O.Out.puts in
    let out = c.put.new.self in
    let on = c.put.new.on in
    on_ok c.put_value.result
    (λ rest. subst (λ o. puts c.args.out.now c.args.on.now c.put_value.new.out c.put_value.new.on (outcome_bytes o)) (sym c.in-Value.is)
    (g.met.O.Out.next c.args.out.now c.args.on.now out on c.put_value.new.out c.put_value.new.on (0 ∷ []) (value_bytes c.in-Value.value) c.in_ok-put-in-Value.ensures.all rest)) c.put_value.ensures.all

pub returns-in_ok-put-in-Failed-clause-all : goal.returns-in_ok-put-in-Failed-clause-all
unfolding outcome_bytes
returns-in_ok-put-in-Failed-clause-all g c =
    let puts = g.O.Out.puts in
    let out = c.put-in-Failed.new.self in
    let on = c.put-in-Failed.new.on in
    on_ok c.put_failure.result
    (λ rest. subst (λ o. puts c.args.out.now c.args.on.now c.put_failure.new.out c.put_failure.new.on (outcome_bytes o)) (sym c.in-Failed.is)
    (g.met.O.Out.next c.args.out.now c.args.on.now out on c.put_failure.new.out c.put_failure.new.on (1 ∷ []) (failure_bytes c.in-Failed.failure) c.in_ok-put-in-Failed.ensures.all rest)) c.put_failure.ensures.all
