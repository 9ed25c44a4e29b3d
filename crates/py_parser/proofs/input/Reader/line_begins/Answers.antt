use Rattle.std.proofs.Common.{List, sym, subst}
use Rattle.py_lexer.specs.declared.token.Token.{Token}
use Rattle.py_parser.specs.Reads.{AreOf}
use Rattle.py_parser.proofs.Places.{are_of_line}
use Rattle.py_parser.proofs.input.Reader.line_begins.Goals as goal

pub bytes_at-requires : goal.bytes_at-requires
bytes_at-requires c =
    subst (λ (ts : List Token). AreOf c.self.inside.text.now ts) (sym c.first_tokens.ensures) (are_of_line c.self.inside.text.now c.self.inside.tokens.now c.self.inside.lines.now c.self.inside.names c.self.invariant)
