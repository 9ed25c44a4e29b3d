use Rattle.std.proofs.Common.{arith}
use Rattle.py_parser.proofs.Places.{nth-of}
use Rattle.py_parser.proofs.spelling.bytes_at.Goals as goal

pub bytes_of-requires : goal.bytes_of-requires
bytes_of-requires c = nth-of c.args.text.now c.args.tokens.now c.args.n _ c.requires (omega (arith, c.if-n-tokens.true))
