-- Whether a name is among those that a test shows.
use Rattle.std.specs.Prelude.{not, ◌&&◌, ◌||◌, if◌then◌else◌, ◌==◌}
use Rattle.std.proofs.Common.{◌≡◌, ℕ, ◌+◌, ◌<◌, ◌≤◌, Bool, true, false, Some, None, List, [], ◌∷◌, ◌++◌, length, drop, get_or, refl, sym, ap, ◌∙◌}
use Rattle.std.proofs.Math.Bool.{or_assoc, or-false}
use Rattle.std.specs.List.{list_any}
use Rattle.py_tree.specs.declared.expr.Expr.{Expr}
use Rattle.py_tree.specs.PlainExpressions.{PlainExpr, PVar, plain_expr, plain_exprs, exprs_of}
use Rattle.py_tree.specs.ClassRules.{variable}
use Rattle.py_tree.specs.FlowEnvironment.{has_name, variable_in, shown, shown_by_each}
use Rattle.py_tree.proofs.ListWalks.{exprs_from, exprs_end}

pub has_none_named : (name : ℕ) → has_name [] name ≡ false
unfolding has_name
has_none_named name = refl

pub has_named_append : (xs ys : List ℕ) (name : ℕ) → has_name (xs ++ ys) name ≡ (has_name xs name || has_name ys name)
unfolding has_name
has_named_append [] ys name = refl
has_named_append (x ∷ xs) ys name = ap (λ b. x == name || b) (has_named_append xs ys name) ∙ sym (or_assoc (x == name) (list_any (λ n. n == name) xs) (has_name ys name))

pub has_named_if : (b : Bool) (xs : List ℕ) (name : ℕ) → has_name (if b then xs else []) name ≡ (b && has_name xs name)
has_named_if true xs name = refl
has_named_if false xs name = has_none_named name

pub has_named_unless : (b : Bool) (xs : List ℕ) (name : ℕ) → has_name (if b then [] else xs) name ≡ (not b && has_name xs name)
has_named_unless true xs name = has_none_named name
has_named_unless false xs name = refl

-- a name alone
one_named : (x name : ℕ) → has_name (x ∷ []) name ≡ (x == name)
unfolding has_name
one_named x name = or-false (x == name)

pub not_variable : (e : PlainExpr) (name : ℕ) → variable e ≡ None → has_name (variable_in e) name ≡ false
not_variable (PVar at x) name is = cc
not_variable e name is = has_none_named name

pub is_variable : (e : PlainExpr) (x name : ℕ) → variable e ≡ Some x → has_name (variable_in e) name ≡ (x == name)
is_variable (PVar at y) x name is = let same : y ≡ x = cc in ap (λ n. has_name (n ∷ []) name) same ∙ one_named x name
is_variable e x name is = cc

pub ruleset variable_laws = (not_variable, is_variable)

pub ruleset shown_laws = (has_none_named, has_named_if, has_named_unless)

-- tests, from one of them on
any_from : (truth : Bool) (xs : List Expr) (name i : ℕ) (x : Expr) → i < length xs → x ≡ get_or xs i x → has_name (shown_by_each truth (exprs_of (plain_exprs (drop i xs)))) name ≡ (has_name (shown truth (plain_expr x)) name || has_name (shown_by_each truth (exprs_of (plain_exprs (drop (i + 1) xs)))) name)
unfolding shown
any_from truth xs name i x within is =
    ap (λ es. has_name (shown_by_each truth es) name) (exprs_from xs i x within is) ∙ has_named_append (shown truth (plain_expr x)) (shown_by_each truth (exprs_of (plain_exprs (drop (i + 1) xs)))) name

pub any_passes : (truth : Bool) (xs : List Expr) (name i : ℕ) (x : Expr) → i < length xs → x ≡ get_or xs i x → has_name (shown truth (plain_expr x)) name ≡ false → has_name (shown_by_each truth (exprs_of (plain_exprs (drop i xs)))) name ≡ has_name (shown_by_each truth (exprs_of (plain_exprs (drop (i + 1) xs)))) name
any_passes truth xs name i x within is none = any_from truth xs name i x within is ∙ ap (λ b. b || has_name (shown_by_each truth (exprs_of (plain_exprs (drop (i + 1) xs)))) name) none

pub any_stops : (truth : Bool) (xs : List Expr) (name i : ℕ) (x : Expr) → i < length xs → x ≡ get_or xs i x → has_name (shown truth (plain_expr x)) name ≡ true → has_name (shown_by_each truth (exprs_of (plain_exprs (drop i xs)))) name ≡ true
any_stops truth xs name i x within is some = any_from truth xs name i x within is ∙ ap (λ b. b || has_name (shown_by_each truth (exprs_of (plain_exprs (drop (i + 1) xs)))) name) some

pub any_ends : (truth : Bool) (xs : List Expr) (name i : ℕ) → length xs ≤ i → has_name (shown_by_each truth (exprs_of (plain_exprs (drop i xs)))) name ≡ false
unfolding shown
any_ends truth xs name i past = ap (λ es. has_name (shown_by_each truth es) name) (exprs_end xs i past) ∙ has_none_named name

pub ruleset any_laws = (any_passes, any_stops, any_ends)
