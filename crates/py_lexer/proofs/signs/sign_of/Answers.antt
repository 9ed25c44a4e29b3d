use Rattle.std.proofs.Common.{sym}
use Rattle.py_lexer.specs.LogicalLines.{sign_len}
use Rattle.py_lexer.proofs.SignLaws.{sign_fits, sign_is_some}
use Rattle.py_lexer.proofs.signs.sign_of.Goals as goal

pub returns-clause-within : goal.returns-clause-within
unfolding sign_len
returns-clause-within c = rw c.sign_len.ensures (sign_fits c.args.bytes.now c.in_ok-number.number (sym c.in_ok-number.ensures.number))

pub returns-clause-some : goal.returns-clause-some
unfolding sign_len
returns-clause-some c = rw c.sign_len.ensures (sign_is_some c.args.bytes.now c.in_ok-number.number (sym c.in_ok-number.ensures.number))
