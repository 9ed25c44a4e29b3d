use Rattle.std.proofs.Common.{refl, ap}
use Rattle.py_tree.specs.ClassRules.{init_body_fault, field_names}
use Rattle.py_tree.specs.ClassViews.{numbers_of}
use Rattle.entity_tables.proofs.init.check_init_body.Goals as goal

pub loop-stmt-init : goal.loop-stmt-init
unfolding init_body_fault field_names
loop-stmt-init c = record { so_far = refl; names = ap numbers_of c.new-declared.ensures.items }
