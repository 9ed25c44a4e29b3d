-- The names of the fields that statements declare.
use Rattle.std.proofs.Common.{◌≡◌, ℕ, ◌+◌, ◌<◌, List, [], ◌∷◌, ◌++◌, length, take, get_or, refl}
use Rattle.std.proofs.lemmas.List.Elements.{filter_map-append}
use Rattle.py_tree.specs.declared.names.Name.{Name}
use Rattle.py_tree.specs.declared.stmt.Stmt.{Stmt}
use Rattle.py_tree.specs.PlainStatements.{plain_stmt, plain_stmts}
use Rattle.py_tree.specs.ClassRules.{field_names}
use Rattle.py_tree.specs.ClassViews.{numbers_of}
use Rattle.py_tree.proofs.ListWalks.{grown}

pub no_names : field_names [] ≡ []
unfolding field_names
no_names = refl

-- the names behind a statement
pub names_more : (old new : List Name) (xs : List Stmt) (i : ℕ) (x : Stmt) → i < length xs → x ≡ get_or xs i x → numbers_of old ≡ field_names (plain_stmts (take i xs)) → numbers_of new ≡ numbers_of old ++ field_names (plain_stmt x ∷ []) → numbers_of new ≡ field_names (plain_stmts (take (i + 1) xs))
unfolding field_names
names_more old new xs i x within is so_far more =
    grown plain_stmt field_names (filter_map-append _) xs i x (numbers_of old) (numbers_of new) within is so_far more

pub ruleset names_laws = (no_names, names_more)
