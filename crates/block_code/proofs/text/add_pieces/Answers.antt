use Rattle.std.proofs.Common.{string_bytes}
use Rattle.sf_list.proofs.Pieces.{pieces_more}
use Rattle.block_code.proofs.text.add_pieces.Goals as goal

pub loop-piece-preserved : goal.loop-piece-preserved
loop-piece-preserved c =
    pieces_more (string_bytes c.args.text.now) (string_bytes c.loop-piece.text) (string_bytes c.push_str.new.self) c.args.pieces.now c.loop-piece.piece-index _ c.loop-piece-test.true c.loop-piece.invariant c.in_ok-push_str.ensures.bytes
