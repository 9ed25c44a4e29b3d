use Rattle.std.proofs.Common.{◌≤◌, length, arith}
use Rattle.std.proofs.lemmas.Result.{on_ok_weaker}
use Rattle.engine.proofs.engine.Engine.make_room.Goals as goal

pub returns-clause-room : goal.returns-clause-room
returns-clause-room c =
    let history : length c.args.moves.now.entries ≤ c.reserve.new.self.spare = omega (arith, c.in_ok-reserve.ensures.room) in
    on_ok_weaker c.prepare.result (λ state. record { history = history; state = state }) c.prepare.ensures.room
