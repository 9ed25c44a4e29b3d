use Rattle.std.proofs.Common.{◌≡◌, map}
use Rattle.py_tree.specs.PlainProgram.{plain_param}
use Rattle.py_tree.specs.ClassRules.{param_place}
use Rattle.py_tree.proofs.KeyLaws.{param_from}
use Rattle.py_tree.proofs.key.param_place.Given as goal

abbrev pub invariant-loop-place : goal.invariant-loop-place
invariant-loop-place l = param_place (map plain_param l.params) l.name.0 ≡ param_from l.place l.params l.name.0
