-- What each function asks of its arguments, and what it gives.
use Rattle.std.specs.Prelude.{ℕ, Bool}
use Rattle.py_tree.specs.PlainTypes.{PlainTy, TInt, TStr}
use Rattle.py_tree.specs.ExpressionTypes.{is_int, is_str_or_list}
use Rattle.py_tree.specs.ExpressionTypes as spec

-- how many arguments it has
abbrev pub count_asked : spec.Function → ℕ
count_asked spec.Length = 1
count_asked spec.Text = 1
count_asked spec.Absolute = 1
count_asked spec.Least = 2
count_asked spec.Greatest = 2

-- the test that each argument passes
abbrev pub asked : spec.Function → PlainTy → Bool
asked spec.Length = is_str_or_list
asked spec.Text = is_int
asked spec.Absolute = is_int
asked spec.Least = is_int
asked spec.Greatest = is_int

-- the type of its result
abbrev pub given : spec.Function → PlainTy
given spec.Length = TInt
given spec.Text = TStr
given spec.Absolute = TInt
given spec.Least = TInt
given spec.Greatest = TInt
