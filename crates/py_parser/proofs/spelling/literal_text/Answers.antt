use Rattle.py_parser.proofs.Places.{nth-of, string-some}
use Rattle.py_parser.proofs.spelling.literal_text.Goals as goal

pub str_text-requires-clause-token_of : goal.str_text-requires-clause-token_of
str_text-requires-clause-token_of c = nth-of c.args.text.now c.args.tokens.now 0 _ c.requires.tokens_of (string-some c.args.tokens.now c.requires.string)
