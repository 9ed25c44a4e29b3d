use Rattle.std.proofs.Common.{length, sym}
use Rattle.py_lexer.proofs.SpanLaws.{one_of_line}
use Rattle.syntax_tests.proofs.tokens.first_string.Goals as goal

pub str_text-requires-clause-token_of : goal.str_text-requires-clause-token_of
str_text-requires-clause-token_of c = one_of_line c.args.text.now 0 (length c.args.text.now) c.in_ok-lines.lines 0 0 c.in-Some.line.now c.in-Some-get.token.now c.in_ok-lines.ensures.spans (sym c.in-Some.ensures.value) (sym c.in-Some-get.ensures.value)
