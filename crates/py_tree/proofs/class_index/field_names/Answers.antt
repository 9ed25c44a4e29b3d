use Rattle.std.proofs.Common.{◌∙◌, sym, ap}
use Rattle.std.specs.Prelude.{option_map}
use Rattle.py_tree.specs.ClassRules.{field_names, body_of}
use Rattle.py_tree.specs.ClassViews.{numbers_of}
use Rattle.py_tree.specs.PlainProgram.{plain_method}
use Rattle.py_tree.proofs.DeclarationLaws.{no_names}
use Rattle.py_tree.proofs.class_index.field_names.Goals as goal

pub returns-in-None : goal.returns-in-None
returns-in-None c =
    ap numbers_of c.new.ensures.items ∙ sym no_names
    ∙ ap (λ init. field_names (body_of init)) (sym (ap (option_map (λ m. plain_method m.now)) c.in-None.is) ∙ c.find_init.ensures)
