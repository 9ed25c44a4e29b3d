use Rattle.py_parser.proofs.Places.{are_of}
use Rattle.py_parser.proofs.input.Reader.quotes_name.Goals as goal

pub literal_text-requires-clause-tokens_of : goal.literal_text-requires-clause-tokens_of
literal_text-requires-clause-tokens_of c = are_of c.self.inside.text.now c.self.inside.tokens.now c.self.inside.lines.now c.self.inside.names c.self.invariant
