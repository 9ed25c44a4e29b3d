use Rattle.std.proofs.Common.{arith, subst}
use Rattle.std.specs.Io.KnownBytes.{Appends}
use Rattle.sf_outside.specs.Bytes.{AppendsPrefix}
use Rattle.sf_outside.proofs.DiskStateLaws.{on_err}
use Rattle.sf_outside.proofs.GainLaws.{Wrote-none}
use Rattle.batch_replies.proofs.FlushLaws.{stays_none, stays_then}
use Rattle.batch_replies.proofs.WriteLaws.{line_more, line_part}
use Rattle.batch_replies.proofs.writing.write_lines.Goals as goal

pub loop-line-init : goal.loop-line-init
loop-line-init g c = record {
  wrote = Wrote-none {U = Unit {0}} tt (g.K.Sink.held c.args.out.now);
  later = omega arith;
  stays = stays_none (g.K.Sink.handed c.args.out.now);
}

pub loop-line-preserved : goal.loop-line-preserved
loop-line-preserved g c = record {
  wrote =
      line_more (g.K.Sink.held c.args.out.now) (g.K.Sink.held c.loop-line.out) (g.K.Sink.held c.write.new.self) c.args.lines.now c.loop-line.line-index c.line-item.result c.loop-line-test.true c.line-item.is c.loop-line.invariant.wrote
      (subst (Appends (g.K.Sink.held c.loop-line.out) (g.K.Sink.held c.write.new.self)) c.as_slice.ensures c.in_ok-write.ensures.whole);
  later = omega (arith, c.loop-line.invariant.later, c.write.ensures.cause.later);
  stays = stays_then _ _ _ c.loop-line.invariant.stays (c.write.ensures.hands.more, c.write.ensures.hands.grows);
}

pub returns-in_err-write-clause-part : goal.returns-in_err-write-clause-part
returns-in_err-write-clause-part g c =
    on_err c.from_residual.result _
    (line_part (g.K.Sink.held c.args.out.now) (g.K.Sink.held c.loop-line.out) (g.K.Sink.held c.write.new.self) c.args.lines.now c.loop-line.line-index c.line-item.result c.loop-line-test.true c.line-item.is c.loop-line.invariant.wrote
    (subst (AppendsPrefix (g.K.Sink.held c.loop-line.out) (g.K.Sink.held c.write.new.self)) c.as_slice.ensures c.in_err-write.ensures.part))

pub returns-in_err-write-clause-stays : goal.returns-in_err-write-clause-stays
returns-in_err-write-clause-stays g c = stays_then _ _ _ c.loop-line.invariant.stays (c.write.ensures.hands.more, c.write.ensures.hands.grows)
