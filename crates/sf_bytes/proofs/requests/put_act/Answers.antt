use Rattle.std.proofs.Common.{◌∷◌, [], ◌++◌, sym, subst}
use Rattle.sf_bytes.specs.ByteForms.{number_bytes, text_bytes, values_bytes, act_bytes}
use Rattle.sf_bytes.proofs.Layers.{on_ok}
use Rattle.sf_bytes.proofs.requests.put_act.Goals as goal

pub returns-in_ok-put-in-Call-clause-all : goal.returns-in_ok-put-in-Call-clause-all
unfolding act_bytes
returns-in_ok-put-in-Call-clause-all g c =
    let puts = g.O.Out.puts in
    let out = c.put.new.self in
    let on = c.put.new.on in
    on_ok c.put_called.result
    (λ rest. subst (λ a. puts c.args.out.now c.args.on.now c.put_called.new.out c.put_called.new.on (act_bytes a)) (sym c.in-Call.is)
    (g.met.O.Out.next c.args.out.now c.args.on.now out on c.put_called.new.out c.put_called.new.on (0 ∷ [])
    (number_bytes c.in-Call.class ++ text_bytes c.in-Call.key ++ number_bytes c.in-Call.method ++ values_bytes c.in-Call.args) c.in_ok-put-in-Call.ensures.all rest)) c.put_called.ensures.all

pub returns-in_ok-put-in-New-clause-all : goal.returns-in_ok-put-in-New-clause-all
unfolding act_bytes
returns-in_ok-put-in-New-clause-all g c =
    let puts = g.O.Out.puts in
    let out = c.put-in-New.new.self in
    let on = c.put-in-New.new.on in
    on_ok c.put_created.result
    (λ rest. subst (λ a. puts c.args.out.now c.args.on.now c.put_created.new.out c.put_created.new.on (act_bytes a)) (sym c.in-New.is)
    (g.met.O.Out.next c.args.out.now c.args.on.now out on c.put_created.new.out c.put_created.new.on (1 ∷ []) (number_bytes c.in-New.class ++ values_bytes c.in-New.args) c.in_ok-put-in-New.ensures.all rest)) c.put_created.ensures.all
