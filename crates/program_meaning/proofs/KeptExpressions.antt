-- An expression gives a value of its kind, fails with a message of its kind, and keeps the world.
use Rattle.std.proofs.Common.{ℕ, zero, suc, pos, negsuc, ◌+◌, ◌-◌, ◌-ℤ◌, ℤ, Bool, true, false, not, Option, Some, None, Err, List, [], ◌∷◌, ◌++◌, length, if◌then◌else◌}
use Rattle.std.specs.Prelude.{slice_get, nat_lt, IfSome}
use Rattle.std.specs.List.{AllByRecursion}
use Rattle.py_tree.specs.declared.expr.BinOp.{BinOp}
use Rattle.py_tree.specs.ExpressionTypes.{Function, function_of}
use Rattle.py_tree.specs.PlainExpressions.{PlainExpr, PInt, PBool, PStr, PNil, PVar, PSelf, PAttr, PCall, PApply, PIndex, PList, PNeg, PPos, PNot, PChain, PAnd, POr, PCompare, PIsNone, PCond, PlainExprs, PNoExpr, PExpr, PLink, PlainLinks, PNoLink, PMoreLinks}
use Rattle.sf_value.specs.declared.value.Value.{Value}
use Rattle.sf_value.specs.declared.value.Value.TheVariants as value
use Rattle.program_meaning.specs.declared.vars.Var.{Var}
use Rattle.program_meaning.specs.World.{Got, told, index_error}
use Rattle.program_meaning.specs.Operations.{weighed, is_true, int_of, items_of, element, element_at, combined, given_by}
use Rattle.program_meaning.specs.Evaluation.{Site, eval, eval_all, linked, each_is, same_truth, applied, class_of}
use Rattle.program_meaning.specs.Execution.{message, value_or_none}
use Rattle.program_meaning.specs.ClassTables.{fields_of}
use Rattle.program_meaning.specs.WrittenInts.{ExprInts, ExprsInts, LinksInts}
use Rattle.program_meaning.proofs.KeptKinds.{Kinds, AreGiven, VarsHold, ResultKept, GivesKept, got, SiteKeeps, behind_all, local_held, field_held, told_kept, then_kept, either_kept}

-- ---- the element of a list

module _ (K : Kinds) where
  place_kept : (xs : List Value) (i : ℕ) → AreGiven K xs → ResultKept K (element_at (slice_get xs i))
  place_kept [] i all = K.silent
  place_kept (x ∷ xs) zero all = all.0
  place_kept (x ∷ xs) (suc i) all = place_kept xs i all.1

  from_end : (b : Bool) (xs : List Value) (k : ℕ) → AreGiven K xs → ResultKept K (if b then element_at (slice_get xs (length xs - (k + 1))) else Err index_error)
  from_end true xs k all = place_kept xs (length xs - (k + 1)) all
  from_end false xs k all = K.silent

  pub element_kept : (xs : List Value) (z : ℤ) → AreGiven K xs → ResultKept K (element xs z)
  element_kept xs (pos k) all = place_kept xs k all
  element_kept xs (negsuc k) all = from_end (nat_lt k (length xs)) xs k all

module _ (K : Kinds) {W : Type 0} (IsKept : W → Type 0) (s : Site W) (k : SiteKeeps K IsKept s) where
  pub weighed_kept : (v : Value) (w : W) (n : ℕ) → K.Held v → IsKept w → GivesKept K IsKept K.Given (told (weighed v) w n)
  weighed_kept v w n held kept = told_kept K IsKept (weighed v) w n (K.weigh v held) kept

  pub combined_kept : (o : BinOp) (v u : Value) (w : W) (n : ℕ) → K.Given v → K.Given u → IsKept w → GivesKept K IsKept K.Given (told (combined o v u) w n)
  combined_kept o v u w n first second kept = told_kept K IsKept (combined o v u) w n (K.both o v u first second) kept

  applied_kept : (o : Option Function) (name : ℕ) (args : List Value) (w : W) (n : ℕ) → AreGiven K args → IsKept w → GivesKept K IsKept K.Given (applied s o name args w n)
  applied_kept None name args w n all kept = k.calls.make (class_of s.src name) args w n (k.program.classes name) all kept
  applied_kept (Some f) name args w n all kept = told_kept K IsKept (given_by f args) w n (K.apply f args all) kept

  mutual
    unfolding eval ExprInts

    pub eval_kept : (e : PlainExpr) → ExprInts K.Written e → (vars : List Var) (w : W) (n : ℕ) → VarsHold K vars → IsKept w → GivesKept K IsKept K.Given (eval s e vars w n)
    eval_kept (PInt at z) ints vars w n hold kept = got (K.int z ints) kept
    eval_kept (PBool at b) ints vars w n hold kept = got (K.truth b) kept
    eval_kept (PStr at text) ints vars w n hold kept = weighed_kept _ w n (k.program.texts text) kept
    eval_kept (PNil at) ints vars w n hold kept = got K.nil kept
    eval_kept (PVar at x) ints vars w n hold kept = weighed_kept _ w n (local_held K vars x hold) kept
    eval_kept (PSelf at) ints vars w n hold kept = weighed_kept _ w n k.me kept
    eval_kept (PAttr at on x x_at) ints vars w n hold kept = weighed_kept _ w n (field_held K (fields_of s.src s.me.0) (s.own.fields w) x (k.fields w kept)) kept
    eval_kept (PCall at on m m_at args) ints vars w n hold kept =
        then_kept K IsKept (eval s on vars w n) _ (eval_kept on ints.0 vars w n hold kept) (λ v w n of kept.
        then_kept K IsKept (eval_all s args [] vars w n) _ (all_kept args ints.1 [] vars w n tt hold kept) (λ vs w n all kept. k.calls.call _ _ vs w n all kept))
    eval_kept (PApply at f args) ints vars w n hold kept =
        then_kept K IsKept (eval_all s args [] vars w n) _ (all_kept args ints [] vars w n tt hold kept) (λ vs w n all kept. applied_kept (function_of f) f vs w n all kept)
    eval_kept (PIndex at on index) ints vars w n hold kept =
        then_kept K IsKept (eval s on vars w n) _ (eval_kept on ints.0 vars w n hold kept) (λ v w n of kept.
        then_kept K IsKept (eval s index vars w n) _ (eval_kept index ints.1 vars w n hold kept) (λ i w n at kept.
        told_kept K IsKept _ w n (element_kept K (items_of v) (int_of i) (K.items v of)) kept))
    eval_kept (PList at items) ints vars w n hold kept =
        then_kept K IsKept (eval_all s items [] vars w n) _ (all_kept items ints [] vars w n tt hold kept) (λ vs w n all kept. weighed_kept _ w n (K.list vs all) kept)
    eval_kept (PNeg at a) ints vars w n hold kept =
        then_kept K IsKept (eval s a vars w n) _ (eval_kept a ints vars w n hold kept) (λ v w n of kept. told_kept K IsKept _ w n (K.range (pos 0 -ℤ int_of v)) kept)
    eval_kept (PPos at a) ints vars w n hold kept = then_kept K IsKept (eval s a vars w n) _ (eval_kept a ints vars w n hold kept) (λ v w n of kept. got (K.number v of) kept)
    eval_kept (PNot at a) ints vars w n hold kept = then_kept K IsKept (eval s a vars w n) _ (eval_kept a ints vars w n hold kept) (λ v w n of kept. got (K.truth _) kept)
    eval_kept (PChain at first links) ints vars w n hold kept =
        then_kept K IsKept (eval s first vars w n) _ (eval_kept first ints.0 vars w n hold kept) (λ v w n of kept. links_kept links ints.1 v vars w n of hold kept)
    eval_kept (PAnd at items) ints vars w n hold kept = each_kept true items ints vars w n hold kept
    eval_kept (POr at items) ints vars w n hold kept = each_kept false items ints vars w n hold kept
    eval_kept (PCompare at op op_at left right) ints vars w n hold kept =
        then_kept K IsKept (eval s left vars w n) _ (eval_kept left ints.0 vars w n hold kept) (λ x w n of kept.
        then_kept K IsKept (eval s right vars w n) _ (eval_kept right ints.1 vars w n hold kept) (λ y w n of kept. got (K.truth _) kept))
    eval_kept (PIsNone at a positive) ints vars w n hold kept = then_kept K IsKept (eval s a vars w n) _ (eval_kept a ints vars w n hold kept) (λ v w n of kept. got (K.truth _) kept)
    eval_kept (PCond at test a b) ints vars w n hold kept =
        then_kept K IsKept (eval s test vars w n) _ (eval_kept test ints.0 vars w n hold kept) (λ v w n of kept.
        either_kept K IsKept (is_true v) (eval s a vars w n) (eval s b vars w n) (eval_kept a ints.1 vars w n hold kept) (eval_kept b ints.2 vars w n hold kept))

    all_kept : (es : PlainExprs) → ExprsInts K.Written es → (vs : List Value) (vars : List Var) (w : W) (n : ℕ) → AreGiven K vs → VarsHold K vars → IsKept w
        → GivesKept K IsKept (AllByRecursion K.Given) (eval_all s es vs vars w n)
    all_kept PNoExpr ints vs vars w n all hold kept = got all kept
    all_kept (PExpr x xs) ints vs vars w n all hold kept =
        then_kept K IsKept (eval s x vars w n) _ (eval_kept x ints.0 vars w n hold kept) (λ v w n of kept.
        all_kept xs ints.1 (vs ++ v ∷ []) vars w n (behind_all K.Given vs v of all) hold kept)

    links_kept : (ls : PlainLinks) → LinksInts K.Written ls → (v : Value) (vars : List Var) (w : W) (n : ℕ) → K.Given v → VarsHold K vars → IsKept w → GivesKept K IsKept K.Given (linked s ls v vars w n)
    links_kept PNoLink ints v vars w n of hold kept = got of kept
    links_kept (PMoreLinks (PLink op at right) more) ints v vars w n of hold kept =
        then_kept K IsKept (eval s right vars w n) _ (eval_kept right ints.0 vars w n hold kept) (λ x w n also kept.
        then_kept K IsKept (told (combined op v x) w n) _ (combined_kept op v x w n of also kept) (λ both w n of kept. links_kept more ints.1 both vars w n of hold kept))

    each_kept : (truth : Bool) (es : PlainExprs) → ExprsInts K.Written es → (vars : List Var) (w : W) (n : ℕ) → VarsHold K vars → IsKept w → GivesKept K IsKept K.Given (each_is s truth es vars w n)
    each_kept truth PNoExpr ints vars w n hold kept = got (K.truth truth) kept
    each_kept truth (PExpr x xs) ints vars w n hold kept =
        then_kept K IsKept (eval s x vars w n) _ (eval_kept x ints.0 vars w n hold kept) (λ v w n of kept.
        either_kept K IsKept (same_truth (is_true v) truth) (each_is s truth xs vars w n) (Got (value.Bool (not truth)) w n) (each_kept truth xs ints.1 vars w n hold kept) (got (K.truth _) kept))

  pub option_kept : (e : Option PlainExpr) → IfSome e (ExprInts K.Written) → (vars : List Var) (w : W) (n : ℕ) → VarsHold K vars → IsKept w → GivesKept K IsKept K.Given (value_or_none s e vars w n)
  unfolding value_or_none
  option_kept None ints vars w n hold kept = got K.nil kept
  option_kept (Some e) ints vars w n hold kept = eval_kept e ints vars w n hold kept

  pub message_kept : (e : Option PlainExpr) → IfSome e (ExprInts K.Written) → (vars : List Var) (w : W) (n : ℕ) → VarsHold K vars → IsKept w → GivesKept K IsKept K.Said (message s e vars w n)
  unfolding message
  message_kept None ints vars w n hold kept = got K.silent kept
  message_kept (Some e) ints vars w n hold kept = then_kept K IsKept (eval s e vars w n) _ (eval_kept e ints vars w n hold kept) (λ v w n of kept. got (K.said v of) kept)
