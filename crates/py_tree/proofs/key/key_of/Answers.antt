use Rattle.std.proofs.Common.{map, sym, ◌∙◌}
use Rattle.py_tree.specs.PlainProgram.{plain_method}
use Rattle.py_tree.proofs.KeyLaws.{told}
use Rattle.py_tree.proofs.key.key_of.Goals as goal

pub returns : goal.returns
returns c =
    c.key_told.ensures ∙ sym (told c.args.names.now (map plain_method c.args.members.now) (plain_method c.in_ok-method.method.now) (plain_method c.in_ok-init.init.now) (sym c.in_ok-method.ensures) (sym c.in_ok-init.ensures))
