-- What `check` prints of a program that is accepted.
use Rattle.std.specs.Prelude.{ℕ, ◌≡◌, List, [], ◌∷◌, length, codes, decimal}
use Rattle.std.specs.List.{concat, sum_by}
use Rattle.py_tree.specs.PlainProgram.{PlainProgram}
use Rattle.py_tree.specs.ClassRules.{methods_of}
use Rattle.operator_graph.specs.Turns.{Outside}

-- how many methods a program has, without `__init__` and `__key__`
abbrev pub count_methods : List (List ℕ) → PlainProgram → ℕ
count_methods names program = sum_by (λ c. length (methods_of names c.members)) program

-- `ok: C classes, M methods`
abbrev pub counts_line : List ℕ → List ℕ → List ℕ
counts_line classes methods = concat (codes "ok: " ∷ classes ∷ codes " classes, " ∷ methods ∷ codes " methods\n" ∷ [])

abbrev pub check_line : List (List ℕ) → PlainProgram → List ℕ
check_line names program = counts_line (decimal (length program)) (decimal (count_methods names program))

-- nothing is chosen and told
pub record IsCheckLine (names : List (List ℕ)) (program : PlainProgram) (old new : Outside) (text : List ℕ) : Type 0 where
  pub same : text ≡ check_line names program
  pub untold : new ≡ old
