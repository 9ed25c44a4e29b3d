use Rattle.std.proofs.Common.{◌≤◌, map, take}
use Rattle.std.specs.List.{concat}
use Rattle.std.specs.Io.KnownBytes.{Appends}
use Rattle.session_steps.proofs.pieces.write_pieces.Given as goal

-- the first pieces were written
abbrev pub invariant-loop-piece : goal.invariant-loop-piece
invariant-loop-piece g l = record {
  wrote : Appends (g.K.Sink.held l.fn.out) (g.K.Sink.held l.out) (concat (map (λ p. p.now) (take l.piece-index l.pieces)));
  later : g.K.Sink.faults l.fn.out ≤ g.K.Sink.faults l.out;
}
