use Rattle.std.proofs.Common.{arith}
use Rattle.py_parser.proofs.Places.{past_step}
use Rattle.py_parser.proofs.spelling.past.Goals as goal

pub bytes-preserved : goal.bytes-preserved
bytes-preserved c = record {
  past = past_step c.args.bytes.now c.args.place c.bytes.behind c.past_byte-behind.result c.bytes.byte-index _ c.bytes-test.true c.bytes.invariant.past c.past_byte-behind.ensures.past;
  line = omega (arith, c.past_byte-behind.ensures.line, c.bytes.invariant.line);
  col = omega (arith, c.past_byte-behind.ensures.col, c.bytes.invariant.col);
}
