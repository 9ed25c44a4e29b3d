use Rattle.std.proofs.Common.{arith}
use Rattle.sf_outside.proofs.DiskStateLaws.{on_err}
use Rattle.session_steps.proofs.PieceLaws.{one_more, part_more}
use Rattle.session_steps.proofs.pieces.write_pieces.Goals as goal

pub loop-piece-preserved : goal.loop-piece-preserved
loop-piece-preserved g c = record {
  wrote = one_more (λ p. p.now) c.args.pieces.now c.loop-piece.piece-index _ c.loop-piece-test.true (g.K.Sink.held c.args.out.now)
      (g.K.Sink.held c.loop-piece.out) (g.K.Sink.held c.write.new.self) c.loop-piece.invariant.wrote c.in_ok-write.ensures.whole;
  later = omega (arith, c.loop-piece.invariant.later, c.write.ensures.cause.later);
}

pub returns-in_err-write-clause-part : goal.returns-in_err-write-clause-part
returns-in_err-write-clause-part g c = on_err c.from_residual.result _
    (part_more (λ p. p.now) c.args.pieces.now c.loop-piece.piece-index _ c.loop-piece-test.true (g.K.Sink.held c.args.out.now)
    (g.K.Sink.held c.loop-piece.out) (g.K.Sink.held c.write.new.self) c.loop-piece.invariant.wrote c.in_err-write.ensures.part)
