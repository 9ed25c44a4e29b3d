use Rattle.std.proofs.Common.{◌∷◌, [], SFits}
use Rattle.std.specs.Int.{w128}
use Rattle.std.proofs.lemmas.Int.{to_z-of_z}
use Rattle.sf_bytes.specs.ByteForms.{int_bytes}
use Rattle.sf_bytes.proofs.Layers.{on_ok}
use Rattle.sf_bytes.proofs.writing.put_tagged_int.Goals as goal

pub returns-clause-all : goal.returns-clause-all
returns-clause-all g c =
    let fit : SFits w128 c.args.number = c.ranges.number in
    let all = simp to_z-of_z at c.put_int.ensures.all in
    on_ok c.put_int.result
    (λ rest. g.met.O.Out.next c.args.out.now c.args.on.now c.put.new.self c.put.new.on c.put_int.new.out c.put_int.new.on (3 ∷ []) (int_bytes c.args.number) c.in_ok-put.ensures.all rest) all
