use Rattle.std.proofs.Common.{◌∷◌, []}
use Rattle.sf_bytes.specs.ByteForms.{text_bytes, failure_bytes}
use Rattle.sf_bytes.proofs.Layers.{on_ok}
use Rattle.sf_bytes.proofs.requests.put_failure.Goals as goal

pub returns-clause-all : goal.returns-clause-all
unfolding failure_bytes
returns-clause-all g c =
    on_ok c.put_text.result
    (λ rest. g.met.O.Out.next c.args.out.now c.args.on.now c.put.new.self c.put.new.on c.put_text.new.out c.put_text.new.on (c.args.failure.now.kind ∷ []) (text_bytes c.args.failure.now.message) c.in_ok-put.ensures.all rest)
    c.put_text.ensures.all
