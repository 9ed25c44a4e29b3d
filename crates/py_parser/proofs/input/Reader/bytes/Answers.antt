use Rattle.py_parser.proofs.Places.{are_of}
use Rattle.py_parser.proofs.input.Reader.bytes.Goals as goal

pub bytes_at-requires : goal.bytes_at-requires
bytes_at-requires c = are_of c.self.inside.text.now c.self.inside.tokens.now c.self.inside.lines.now c.self.inside.names c.self.invariant
