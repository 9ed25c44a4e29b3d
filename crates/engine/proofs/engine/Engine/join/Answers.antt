use Rattle.std.proofs.Common.{ap, length, arith}
use Rattle.std.proofs.lemmas.List.{length-append}
use Rattle.engine.proofs.engine.Engine.join.Goals as goal

pub invariant_of-self-clause-placed : goal.invariant_of-self-clause-placed
invariant_of-self-clause-placed c =
    let joined = ap length c.commit_all.ensures in
    let both = length-append c.args.self.now.history.entries c.args.moves.entries in
    let room = c.requires.can.placed in
    omega arith
