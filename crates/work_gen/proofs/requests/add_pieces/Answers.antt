use Rattle.sf_list.proofs.Pieces.{pieces_more}
use Rattle.work_gen.proofs.requests.add_pieces.Goals as goal

pub loop-piece-preserved : goal.loop-piece-preserved
loop-piece-preserved c =
    pieces_more c.args.bytes.now c.loop-piece.bytes c.extend_from_slice.new.self c.args.pieces.now c.loop-piece.piece-index _ c.loop-piece-test.true c.loop-piece.invariant c.in_ok-extend_from_slice.ensures.ok
