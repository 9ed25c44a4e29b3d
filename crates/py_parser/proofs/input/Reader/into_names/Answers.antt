use Rattle.py_parser.proofs.Places.{few-names}
use Rattle.py_parser.proofs.input.Reader.into_names.Goals as goal

pub returns-clause-few : goal.returns-clause-few
returns-clause-few c = few-names c.self.inside.text.now c.self.inside.tokens.now c.self.inside.lines.now c.self.inside.names c.self.invariant
