use Rattle.std.proofs.Common.{◌≡◌, ◌++◌, map, take}
use Rattle.std.specs.List.{concat}
use Rattle.work_gen.proofs.requests.add_pieces.Given as goal

-- the first pieces were added
abbrev pub invariant-loop-piece : goal.invariant-loop-piece
invariant-loop-piece l = l.bytes ≡ l.fn.bytes ++ concat (map (λ piece. piece.now) (take l.piece-index l.pieces))
