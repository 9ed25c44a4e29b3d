-- Statements up to the first behind which nothing goes on, and the literal True.
use Rattle.std.proofs.Common.{◌≡◌, ℕ, ◌+◌, ◌<◌, ◌≤◌, Bool, true, false, ◌↔◌, List, [], ◌∷◌, ◌++◌, length, take, drop, get_or, if◌then◌else◌, append_assoc, append-nil, refl, sym, ap, ◌∙◌, true≢false}
use Rattle.std.proofs.lemmas.List.{drop_all, take_all}
use Rattle.py_tree.specs.declared.expr.Expr.{Expr}
use Rattle.py_tree.proofs.ListWalks.{map_from, map_more}
use Rattle.flat_tree.specs.declared.tree.FlatStmt.{FlatStmt}
use Rattle.flat_tree.specs.declared.tree.FlatTest.{FlatTest}
use Rattle.flat_tree.specs.declared.tree.FlatTest as t
use Rattle.flat_tree.specs.PlainFlat.{PlainFlatStmt, plain_flat_stmt, plain_flat_stmts, plain_flat_test}
use Rattle.flat_tree.proofs.FlatViews.{test-Leaf}
use Rattle.method_splitter.specs.Split.{stops, always}
use Rattle.method_splitter.specs.SmallStatements.{reached_part}

from_here : (xs : List FlatStmt) (i : ℕ) (x : FlatStmt) (b : Bool) → i < length xs → x ≡ get_or xs i x → stops (plain_flat_stmt x) ≡ b
    → reached_part (plain_flat_stmts (drop i xs)) ≡ if b then plain_flat_stmt x ∷ [] else (plain_flat_stmt x ∷ reached_part (plain_flat_stmts (drop (i + 1) xs)))
unfolding reached_part
from_here xs i x b within is told =
    ap reached_part (map_from plain_flat_stmt xs i x within is) ∙ ap (λ b. if b then plain_flat_stmt x ∷ [] else (plain_flat_stmt x ∷ reached_part (plain_flat_stmts (drop (i + 1) xs)))) told

pub goes_further : (xs : List FlatStmt) (all : List PlainFlatStmt) (i : ℕ) (x : FlatStmt) → i < length xs → x ≡ get_or xs i x → stops (plain_flat_stmt x) ≡ false → plain_flat_stmts (take i xs) ++ reached_part (plain_flat_stmts (drop i xs)) ≡ all
    → plain_flat_stmts (take (i + 1) xs) ++ reached_part (plain_flat_stmts (drop (i + 1) xs)) ≡ all
goes_further xs all i x within is told so_far =
    let rest = reached_part (plain_flat_stmts (drop (i + 1) xs)) in
    ap (λ l. l ++ rest) (map_more plain_flat_stmt xs i x within is) ∙ append_assoc (plain_flat_stmts (take i xs)) (plain_flat_stmt x ∷ []) rest
    ∙ ap (λ l. plain_flat_stmts (take i xs) ++ l) (sym (from_here xs i x false within is told)) ∙ so_far

pub ends_here : (xs : List FlatStmt) (all : List PlainFlatStmt) (i : ℕ) (x : FlatStmt) → i < length xs → x ≡ get_or xs i x → stops (plain_flat_stmt x) ≡ true → plain_flat_stmts (take i xs) ++ reached_part (plain_flat_stmts (drop i xs)) ≡ all
    → plain_flat_stmts (take (i + 1) xs) ≡ all
ends_here xs all i x within is told so_far =
    map_more plain_flat_stmt xs i x within is ∙ ap (λ l. plain_flat_stmts (take i xs) ++ l) (sym (from_here xs i x true within is told)) ∙ so_far

pub ends_there : (xs : List FlatStmt) (all : List PlainFlatStmt) (i n : ℕ) → length xs ≤ i → length xs ≤ n → plain_flat_stmts (take i xs) ++ reached_part (plain_flat_stmts (drop i xs)) ≡ all → plain_flat_stmts (take n xs) ≡ all
unfolding reached_part
ends_there xs all i n past whole so_far =
    ap plain_flat_stmts (take_all n xs whole ∙ sym (take_all i xs past)) ∙ sym (append-nil (plain_flat_stmts (take i xs))) ∙ ap (λ l. plain_flat_stmts (take i xs) ++ reached_part (plain_flat_stmts l)) (sym (drop_all i xs past)) ∙ so_far

pub not_always : (test : FlatTest) (before : List FlatStmt) (value : Expr) (empty : Bool) → test ≡ t.Leaf before value → (empty ≡ true) ↔ (before ≡ []) → empty ≡ false → empty ≡ always (plain_flat_test test)
not_always test [] value empty is iff some = absurd (true≢false (sym (iff.1 refl) ∙ some))
not_always test (x ∷ before) value empty is iff some = some ∙ sym (ap always (ap plain_flat_test is ∙ test-Leaf (x ∷ before) value))
