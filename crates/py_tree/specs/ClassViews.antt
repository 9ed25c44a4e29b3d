-- Parts of classes as plain ones.
use Rattle.std.specs.Prelude.{ℕ, List, map}
use Rattle.py_tree.specs.declared.names.Name.{Name}
use Rattle.py_tree.specs.declared.declarations.Declaration.{Declaration}
use Rattle.py_tree.specs.declared.key.Key.{Key}
use Rattle.py_tree.specs.PlainTypes.{plain_written}
use Rattle.py_tree.specs.PlainExpressions.{plain_expr}
use Rattle.py_tree.specs.ClassRules.{PlainKey}
use Rattle.py_tree.specs.ClassRules as spec

abbrev pub numbers_of : List Name → List ℕ
numbers_of = map (λ name. name.0)

abbrev pub plain_declaration : Declaration → spec.Declaration
plain_declaration d = record { field = d.field; ty = plain_written d.ty.now; value = plain_expr d.value.now }

abbrev pub plain_key : Key → PlainKey
plain_key k = record { field = k.field; param = k.param }
