-- The functions of the language as plain ones.
use Rattle.py_tree.specs.ExpressionTypes as plain
use Rattle.py_tree.specs.declared.function.Function.{Function}
use Rattle.py_tree.specs.declared.function.Function.TheVariants as f

abbrev pub plain_function : Function → plain.Function
plain_function f.Length = plain.Length
plain_function f.Text = plain.Text
plain_function f.Absolute = plain.Absolute
plain_function f.Least = plain.Least
plain_function f.Greatest = plain.Greatest
