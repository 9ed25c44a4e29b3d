-- Defaults, from an expression on, and the expressions that statements declare fields with, up to one.
use Rattle.std.proofs.Common.{◌≡◌, ℕ, ◌+◌, ◌<◌, ◌≤◌, Option, Some, None, List, [], ◌∷◌, ◌++◌, length, map, take, drop, get_or, append_assoc, append-nil, refl, sym, ap, ◌∙◌}
use Rattle.std.specs.Prelude.{option_map, option_and_then}
use Rattle.std.specs.Borrow.{Bor}
use Rattle.std.proofs.lemmas.List.{drop_all, drop-map}
use Rattle.std.proofs.lemmas.Option.{slice_get-get_or, get_or_from_slice_get}
use Rattle.std.proofs.lemmas.List.Elements.{filter_map-append}
use Rattle.py_tree.specs.declared.expr.Expr.{Expr}
use Rattle.py_tree.specs.declared.stmt.Stmt.{Stmt}
use Rattle.py_tree.specs.PlainExpressions.{PlainExpr, plain_expr, plain_exprs, exprs_of}
use Rattle.py_tree.specs.PlainStatements.{plain_stmt, plain_stmts}
use Rattle.py_tree.proofs.ListWalks.{map_from, grown}
use Rattle.sf_value.specs.declared.value.Value.{Value}
use Rattle.program_upgrade.specs.Lent.{exprs_in}
use Rattle.program_upgrade.specs.Defaults.{default, defaults, empty_list, declared_values}

-- ---- Defaults

-- the element at a place, whatever stands for one past the end
pub read_itself : {X : Type 0} (xs : List X) (i : ℕ) (d : X) → i < length xs → get_or xs i d ≡ get_or xs i (get_or xs i d)
read_itself xs i d within = sym (get_or_from_slice_get xs i (get_or xs i d) (get_or xs i d) (slice_get-get_or xs i d within))

-- these values, and then those of the expressions from a place on
abbrev pub values_from : List (List ℕ) → List (Bor Expr) → ℕ → List Value → Option (List Value)
values_from names exprs i values = option_map (λ vs. values ++ vs) (defaults names (exprs_in (drop i exprs)))

joined : (values : List Value) (v : Value) (o : Option (List Value)) → option_map (λ vs. values ++ vs) (option_map (λ vs. v ∷ vs) o) ≡ option_map (λ vs. (values ++ v ∷ []) ++ vs) o
joined values v None = refl
joined values v (Some vs) = ap Some (sym (append_assoc values (v ∷ []) vs))

at_expr : (names : List (List ℕ)) (exprs : List (Bor Expr)) (i : ℕ) (d : Bor Expr) (values : List Value) (o : Option Value) → i < length exprs → default names (plain_expr (get_or exprs i d).now) ≡ o
    → values_from names exprs i values ≡ option_map (λ vs. values ++ vs) (option_and_then (λ v. option_map (λ vs. v ∷ vs) (defaults names (exprs_in (drop (i + 1) exprs)))) o)
unfolding defaults
at_expr names exprs i d values o within gives =
    ap (λ es. option_map (λ vs. values ++ vs) (defaults names es)) (map_from (λ (e : Bor Expr). plain_expr e.now) exprs i (get_or exprs i d) within (read_itself exprs i d within))
    ∙ ap (λ o. option_map (λ vs. values ++ vs) (option_and_then (λ v. option_map (λ vs. v ∷ vs) (defaults names (exprs_in (drop (i + 1) exprs)))) o)) gives

-- the default by an expression that is read
pub read_default : (names : List (List ℕ)) (exprs : List (Bor Expr)) (i : ℕ) (e : Bor Expr) (o : Option Value) → e ≡ get_or exprs i e → default names (plain_expr e.now) ≡ o → default names (plain_expr (get_or exprs i e).now) ≡ o
read_default names exprs i e o is gives = ap (λ (x : Bor Expr). default names (plain_expr x.now)) (sym is) ∙ gives

pub value_more : (names : List (List ℕ)) (exprs : List (Bor Expr)) (i : ℕ) (d : Bor Expr) (old new : List Value) (v : Value) → i < length exprs → default names (plain_expr (get_or exprs i d).now) ≡ Some v → new ≡ old ++ v ∷ []
    → values_from names exprs i old ≡ values_from names exprs (i + 1) new
value_more names exprs i d old new v within gives more =
    at_expr names exprs i d old (Some v) within gives
    ∙ joined old v (defaults names (exprs_in (drop (i + 1) exprs)))
    ∙ ap (values_from names exprs (i + 1)) (sym more)

pub value_stop : (names : List (List ℕ)) (exprs : List (Bor Expr)) (i : ℕ) (d : Bor Expr) (values : List Value) → i < length exprs → default names (plain_expr (get_or exprs i d).now) ≡ None → values_from names exprs i values ≡ None
value_stop names exprs i d values within gives = at_expr names exprs i d values None within gives

pub value_end : (names : List (List ℕ)) (exprs : List (Bor Expr)) (i : ℕ) (values : List Value) → length exprs ≤ i → values_from names exprs i values ≡ Some values
unfolding defaults
value_end names exprs i values past = ap (λ es. option_map (λ vs. values ++ vs) (defaults names (exprs_in es))) (drop_all i exprs past) ∙ ap Some (append-nil values)

nothing_before : (o : Option (List Value)) → option_map (λ vs. [] ++ vs) o ≡ o
nothing_before None = refl
nothing_before (Some vs) = refl

-- the expressions behind the first so many
pub exprs_behind : (exprs : List (Bor Expr)) (n : ℕ) → exprs_in (drop n exprs) ≡ drop n (exprs_in exprs)
exprs_behind exprs n = sym (drop-map (λ (e : Bor Expr). plain_expr e.now) n exprs)

pub value_start : (names : List (List ℕ)) (exprs : List (Bor Expr)) (i : ℕ) → values_from names exprs i [] ≡ defaults names (drop i (exprs_in exprs))
value_start names exprs i = nothing_before (defaults names (exprs_in (drop i exprs))) ∙ ap (defaults names) (exprs_behind exprs i)

-- ---- Declarations

-- a list with elements isn't the empty one
pub no_empty_list : (xs : List Expr) → (xs ≡ [] → ⊥) → empty_list (exprs_of (plain_exprs xs)) ≡ None
no_empty_list [] some = absurd (some refl)
no_empty_list (x ∷ xs) some = refl

pub no_value : declared_values [] ≡ []
unfolding declared_values
no_value = refl

pub exprs_more : (old new : List (Bor Expr)) (xs : List Stmt) (i : ℕ) (x : Stmt) → i < length xs → x ≡ get_or xs i x → exprs_in old ≡ declared_values (plain_stmts (take i xs)) → exprs_in new ≡ exprs_in old ++ declared_values (plain_stmt x ∷ []) → exprs_in new ≡ declared_values (plain_stmts (take (i + 1) xs))
unfolding declared_values
exprs_more old new xs i x within is so_far more =
    grown plain_stmt declared_values (filter_map-append _) xs i x (exprs_in old) (exprs_in new) within is so_far more

pub ruleset value_laws = (no_value, exprs_more)
