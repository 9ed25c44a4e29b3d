use Rattle.std.proofs.Common.{OnOk, subst, SFits}
use Rattle.std.specs.Int.{w128}
use Rattle.std.proofs.lemmas.Int.{to_z-of_z}
use Rattle.sf_bytes.specs.ByteForms.{int_bytes}
use Rattle.sf_bytes.proofs.writing.put_int.Goals as goal

pub returns-clause-all : goal.returns-clause-all
unfolding int_bytes
returns-clause-all g c =
    let fit : SFits w128 c.args.number = c.ranges.number in
    let bytes = simp to_z-of_z at c.to_be_bytes.ensures in
    subst (λ bytes. OnOk c.put.result (g.O.Out.puts c.args.out.now c.args.on.now c.put.new.self c.put.new.on bytes)) bytes c.put.ensures.all
