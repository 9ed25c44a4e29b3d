use Rattle.std.proofs.Common.{◌≡◌, ◌++◌, map, take, string_bytes}
use Rattle.std.specs.List.{concat}
use Rattle.block_code.proofs.text.add_pieces.Given as goal

-- the first pieces were added
abbrev pub invariant-loop-piece : goal.invariant-loop-piece
invariant-loop-piece l = string_bytes l.text ≡ string_bytes l.fn.text ++ concat (map (λ piece. piece.now) (take l.piece-index l.pieces))
