-- An expression keeps the world, gives a light value and fails with a short message.
use Rattle.std.proofs.Common.{ℕ, pos, ◌-ℤ◌, Bool, true, false, not, Option, Some, None, List, [], ◌∷◌, ◌++◌}
use Rattle.py_tree.specs.declared.expr.BinOp.{BinOp}
use Rattle.py_tree.specs.ExpressionTypes.{Function, function_of}
use Rattle.py_tree.specs.PlainExpressions.{PlainExpr, PInt, PBool, PStr, PNil, PVar, PSelf, PAttr, PCall, PApply, PIndex, PList, PNeg, PPos, PNot, PChain, PAnd, POr, PCompare, PIsNone, PCond, PlainExprs, PNoExpr, PExpr, PLink, PlainLinks, PNoLink, PMoreLinks}
use Rattle.sf_value.specs.declared.value.Value.{Value}
use Rattle.sf_value.specs.declared.value.Value.TheVariants as value
use Rattle.byte_sizes.specs.Spelt.{IsShortText}
use Rattle.program_meaning.specs.declared.vars.Var.{Var}
use Rattle.program_meaning.specs.World.{Got, told}
use Rattle.program_meaning.specs.Operations.{weighed, is_true, int_of, items_of, combined, given_by}
use Rattle.program_meaning.specs.Evaluation.{Site, eval, eval_all, linked, each_is, same_truth, applied}
use Rattle.program_meaning.specs.Execution.{message, value_or_none}
use Rattle.program_meaning.specs.LightValues.{IsLight, AreLight, no_value}
use Rattle.program_meaning.proofs.LightOperations.{int_light, bool_light, nil_light, weighed_light, in_range_light, items_light, element_light, light_behind, combined_light, given_light}
use Rattle.short_runs.proofs.ShortValues.{no_text_short, text_short}
use Rattle.short_runs.proofs.ShortFailures.{weighed_fails, in_range_fails, element_fails, combined_fails, given_fails}
use Rattle.short_runs.proofs.ShortCode.{GivesShort, got, SiteKeeps, told_short, then_short, either_short}

module _ {W : Type 0} (IsKept : W → Type 0) (s : Site W) (k : SiteKeeps IsKept s) where
  pub weighed_short : (v : Value) (w : W) (n : ℕ) → IsKept w → GivesShort IsKept IsLight (told (weighed v) w n)
  weighed_short v w n kept = told_short IsKept (weighed v) w n (weighed_light v) (weighed_fails v) kept

  pub combined_short : (o : BinOp) (v u : Value) (w : W) (n : ℕ) → IsKept w → GivesShort IsKept IsLight (told (combined o v u) w n)
  combined_short o v u w n kept = told_short IsKept (combined o v u) w n (combined_light o v u) (combined_fails o v u) kept

  applied_short : (o : Option Function) (name : ℕ) (args : List Value) (w : W) (n : ℕ) → AreLight args → IsKept w → GivesShort IsKept IsLight (applied s o name args w n)
  applied_short None name args w n all kept = k.calls.make _ args w n all kept
  applied_short (Some f) name args w n all kept = told_short IsKept (given_by f args) w n (given_light f args) (given_fails f args) kept

  mutual
    unfolding eval

    pub eval_short : (e : PlainExpr) (vars : List Var) (w : W) (n : ℕ) → IsKept w → GivesShort IsKept IsLight (eval s e vars w n)
    eval_short (PInt at z) vars w n kept = got (int_light z) kept
    eval_short (PBool at b) vars w n kept = got (bool_light b) kept
    eval_short (PStr at text) vars w n kept = weighed_short _ w n kept
    eval_short (PNil at) vars w n kept = got nil_light kept
    eval_short (PVar at x) vars w n kept = weighed_short _ w n kept
    eval_short (PSelf at) vars w n kept = weighed_short _ w n kept
    eval_short (PAttr at on x x_at) vars w n kept = weighed_short _ w n kept
    eval_short (PCall at on m m_at args) vars w n kept =
        then_short IsKept (eval s on vars w n) _ (eval_short on vars w n kept) (λ v w n l kept.
        then_short IsKept (eval_all s args [] vars w n) _ (all_short args [] vars w n no_value kept) (λ vs w n all kept. k.calls.call _ _ vs w n kept))
    eval_short (PApply at f args) vars w n kept =
        then_short IsKept (eval_all s args [] vars w n) _ (all_short args [] vars w n no_value kept) (λ vs w n all kept. applied_short (function_of f) f vs w n all kept)
    eval_short (PIndex at on index) vars w n kept =
        then_short IsKept (eval s on vars w n) _ (eval_short on vars w n kept) (λ v w n l kept.
        then_short IsKept (eval s index vars w n) _ (eval_short index vars w n kept) (λ i w n m kept.
        told_short IsKept _ w n (element_light (items_of v) (items_light v l) (int_of i)) (element_fails (items_of v) (int_of i)) kept))
    eval_short (PList at items) vars w n kept = then_short IsKept (eval_all s items [] vars w n) _ (all_short items [] vars w n no_value kept) (λ vs w n all kept. weighed_short _ w n kept)
    eval_short (PNeg at a) vars w n kept =
        then_short IsKept (eval s a vars w n) _ (eval_short a vars w n kept) (λ v w n l kept.
        told_short IsKept _ w n (in_range_light (pos 0 -ℤ int_of v)) (in_range_fails (pos 0 -ℤ int_of v)) kept)
    eval_short (PPos at a) vars w n kept = then_short IsKept (eval s a vars w n) _ (eval_short a vars w n kept) (λ v w n l kept. got (int_light _) kept)
    eval_short (PNot at a) vars w n kept = then_short IsKept (eval s a vars w n) _ (eval_short a vars w n kept) (λ v w n l kept. got (bool_light _) kept)
    eval_short (PChain at first links) vars w n kept = then_short IsKept (eval s first vars w n) _ (eval_short first vars w n kept) (λ v w n l kept. links_short links v vars w n l kept)
    eval_short (PAnd at items) vars w n kept = each_short true items vars w n kept
    eval_short (POr at items) vars w n kept = each_short false items vars w n kept
    eval_short (PCompare at op op_at left right) vars w n kept =
        then_short IsKept (eval s left vars w n) _ (eval_short left vars w n kept) (λ x w n l kept.
        then_short IsKept (eval s right vars w n) _ (eval_short right vars w n kept) (λ y w n m kept. got (bool_light _) kept))
    eval_short (PIsNone at a positive) vars w n kept = then_short IsKept (eval s a vars w n) _ (eval_short a vars w n kept) (λ v w n l kept. got (bool_light _) kept)
    eval_short (PCond at test a b) vars w n kept =
        then_short IsKept (eval s test vars w n) _ (eval_short test vars w n kept) (λ v w n l kept.
        either_short IsKept (is_true v) (eval s a vars w n) (eval s b vars w n) (eval_short a vars w n kept) (eval_short b vars w n kept))

    all_short : (es : PlainExprs) (vs : List Value) (vars : List Var) (w : W) (n : ℕ) → AreLight vs → IsKept w → GivesShort IsKept AreLight (eval_all s es vs vars w n)
    all_short PNoExpr vs vars w n all kept = got all kept
    all_short (PExpr x xs) vs vars w n all kept = then_short IsKept (eval s x vars w n) _ (eval_short x vars w n kept) (λ v w n l kept. all_short xs (vs ++ v ∷ []) vars w n (light_behind vs v all l) kept)

    links_short : (ls : PlainLinks) (v : Value) (vars : List Var) (w : W) (n : ℕ) → IsLight v → IsKept w → GivesShort IsKept IsLight (linked s ls v vars w n)
    links_short PNoLink v vars w n l kept = got l kept
    links_short (PMoreLinks (PLink op at right) more) v vars w n l kept =
        then_short IsKept (eval s right vars w n) _ (eval_short right vars w n kept) (λ x w n m kept.
        then_short IsKept (told (combined op v x) w n) _ (combined_short op v x w n kept) (λ both w n m kept. links_short more both vars w n m kept))

    each_short : (truth : Bool) (es : PlainExprs) (vars : List Var) (w : W) (n : ℕ) → IsKept w → GivesShort IsKept IsLight (each_is s truth es vars w n)
    each_short truth PNoExpr vars w n kept = got (bool_light truth) kept
    each_short truth (PExpr x xs) vars w n kept =
        then_short IsKept (eval s x vars w n) _ (eval_short x vars w n kept) (λ v w n l kept.
        either_short IsKept (same_truth (is_true v) truth) (each_is s truth xs vars w n) (Got (value.Bool (not truth)) w n) (each_short truth xs vars w n kept) (got (bool_light _) kept))

  pub value_short : (e : Option PlainExpr) (vars : List Var) (w : W) (n : ℕ) → IsKept w → GivesShort IsKept IsLight (value_or_none s e vars w n)
  unfolding value_or_none
  value_short None vars w n kept = got nil_light kept
  value_short (Some e) vars w n kept = eval_short e vars w n kept

  pub message_short : (e : Option PlainExpr) (vars : List Var) (w : W) (n : ℕ) → IsKept w → GivesShort IsKept IsShortText (message s e vars w n)
  unfolding message
  message_short None vars w n kept = got no_text_short kept
  message_short (Some e) vars w n kept = then_short IsKept (eval s e vars w n) _ (eval_short e vars w n kept) (λ v w n l kept. got (text_short v l) kept)
