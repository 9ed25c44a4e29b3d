-- The first fault of the statements of `__init__`.
use Rattle.std.proofs.Common.{◌≡◌, ℕ, ◌+◌, ◌<◌, Option, Some, None, List, length, take, drop, get_or, sym, ap, ◌∙◌}
use Rattle.py_tree.specs.declared.names.Name.{Name}
use Rattle.py_tree.specs.declared.stmt.Stmt.{Stmt}
use Rattle.py_tree.specs.declared.rule.RuleFault.{RuleFault}
use Rattle.py_tree.specs.PlainStatements.{PlainStmt, plain_stmt, plain_stmts}
use Rattle.py_tree.specs.PlainProgram.{PlainProgram, PlainMethod}
use Rattle.py_tree.specs.ClassViews.{numbers_of}
use Rattle.py_tree.specs.ClassRules.{first_behind, field_names, init_stmt_fault}
use Rattle.entity_tables.proofs.Lists.{first_passes, first_stops}

abbrev pub stmt_fault : List (List ℕ) → PlainProgram → List PlainMethod → List PlainStmt → PlainStmt → Option RuleFault
stmt_fault names p members before s = init_stmt_fault names p members (field_names before) s

-- a statement without a fault
pub init_passes : (names : List (List ℕ)) (p : PlainProgram) (members : List PlainMethod) (declared : List Name) (xs : List Stmt) (i : ℕ) (x : Stmt) → i < length xs → x ≡ get_or xs i x → numbers_of declared ≡ field_names (plain_stmts (take i xs)) → init_stmt_fault names p members (numbers_of declared) (plain_stmt x) ≡ None → first_behind (stmt_fault names p members) (plain_stmts (take i xs)) (plain_stmts (drop i xs)) ≡ first_behind (stmt_fault names p members) (plain_stmts (take (i + 1) xs)) (plain_stmts (drop (i + 1) xs))
init_passes names p members declared xs i x within is so_far none = first_passes plain_stmt (stmt_fault names p members) xs i x within is (ap (λ ns. init_stmt_fault names p members ns (plain_stmt x)) (sym so_far) ∙ none)

-- one with a fault
pub init_stops : (names : List (List ℕ)) (p : PlainProgram) (members : List PlainMethod) (declared : List Name) (xs : List Stmt) (i : ℕ) (x : Stmt) (f : RuleFault) → i < length xs → x ≡ get_or xs i x → numbers_of declared ≡ field_names (plain_stmts (take i xs)) → init_stmt_fault names p members (numbers_of declared) (plain_stmt x) ≡ Some f → first_behind (stmt_fault names p members) (plain_stmts (take i xs)) (plain_stmts (drop i xs)) ≡ Some f
init_stops names p members declared xs i x f within is so_far some = first_stops plain_stmt (stmt_fault names p members) xs i x f within is (ap (λ ns. init_stmt_fault names p members ns (plain_stmt x)) (sym so_far) ∙ some)

pub ruleset init_laws = (init_passes, init_stops)
