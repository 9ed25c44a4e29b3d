use Rattle.std.proofs.Common.{[], sym, ap, length}
use Rattle.std.proofs.lemmas.List.{get_or-map}
use Rattle.py_lexer.proofs.signs.len_of.Goals as goal

pub returns : goal.returns
returns c = sym (ap length (get_or-map (λ text. text.now) c.args.texts.now c.args.n _ [] c.requires))
