-- An expression gives a light value where calls do.
use Rattle.std.proofs.Common.{ℕ, Bool, true, false, not, Option, Some, None, Result, Ok, Err, List, [], ◌∷◌, ◌++◌, if◌then◌else◌}
use Rattle.py_tree.specs.ExpressionTypes.{Function, function_of}
use Rattle.py_tree.specs.PlainExpressions.{PlainExpr, PInt, PBool, PStr, PNil, PVar, PSelf, PAttr, PCall, PApply, PIndex, PList, PNeg, PPos, PNot, PChain, PAnd, POr, PCompare, PIsNone, PCond, PlainExprs, PNoExpr, PExpr, PLink, PlainLinks, PNoLink, PMoreLinks}
use Rattle.py_tree.specs.PlainStatements.{PlainOver, PRange, PItems}
use Rattle.sf_value.specs.declared.Failure.{Failure}
use Rattle.sf_value.specs.declared.value.Value.{Value}
use Rattle.sf_value.specs.declared.value.Value.TheVariants as value
use Rattle.program_meaning.specs.declared.vars.Var.{Var}
use Rattle.program_meaning.specs.World.{Gives, Got, Fell, ◌>>=◌, told}
use Rattle.program_meaning.specs.Operations.{is_true, int_of, items_of, combined}
use Rattle.program_meaning.specs.Evaluation.{Site, eval, eval_all, linked, each_is, same_truth, applied}
use Rattle.program_meaning.specs.Execution.{Items, Numbers, value_or_none, start_of, turns_of}
use Rattle.program_meaning.specs.LightValues.{IsLight, AreLight, no_value, GivesLight, GivesLightTurns, CallsGiveLight}
use Rattle.program_meaning.proofs.LightOperations.{LightResult, int_light, bool_light, nil_light, weighed_light, in_range_light, items_light, element_light, light_behind, combined_light, given_light}

-- all values that are given are light
abbrev GivesAllLight : {W : Type 0} → Gives W (List Value) → Type 0
GivesAllLight (Got vs w n) = AreLight vs
GivesAllLight (Fell f w n) = Unit {0}

module _ {W : Type 0} where
  told_light : (r : Result Value Failure) (w : W) (n : ℕ) → LightResult r → GivesLight (told r w n)
  told_light (Ok v) w n l = l
  told_light (Err f) w n l = tt

  then_light : (g : Gives W Value) (f : Value → W → ℕ → Gives W Value) → GivesLight g → ((v : Value) (w : W) (n : ℕ) → IsLight v → GivesLight (f v w n)) → GivesLight (g >>= f)
  then_light (Got v w n) f l later = later v w n l
  then_light (Fell e w n) f l later = tt

  then_all_light : (g : Gives W Value) (f : Value → W → ℕ → Gives W (List Value)) → GivesLight g → ((v : Value) (w : W) (n : ℕ) → IsLight v → GivesAllLight (f v w n)) → GivesAllLight (g >>= f)
  then_all_light (Got v w n) f l later = later v w n l
  then_all_light (Fell e w n) f l later = tt

  of_all_light : (g : Gives W (List Value)) (f : List Value → W → ℕ → Gives W Value) → GivesAllLight g → ((vs : List Value) (w : W) (n : ℕ) → AreLight vs → GivesLight (f vs w n)) → GivesLight (g >>= f)
  of_all_light (Got vs w n) f l later = later vs w n l
  of_all_light (Fell e w n) f l later = tt

  if_light : (b : Bool) (g h : Gives W Value) → GivesLight g → GivesLight h → GivesLight (if b then g else h)
  if_light true g h first second = first
  if_light false g h first second = second

  module _ (s : Site W) (calls : CallsGiveLight s.calls) where
    applied_light : (o : Option Function) (name : ℕ) (args : List Value) (w : W) (n : ℕ) → AreLight args → GivesLight (applied s o name args w n)
    applied_light None name args w n all = calls.make _ args w n all
    applied_light (Some f) name args w n all = told_light _ w n (given_light f args)

    mutual
      unfolding eval

      pub eval_light : (e : PlainExpr) (vars : List Var) (w : W) (n : ℕ) → GivesLight (eval s e vars w n)
      eval_light (PInt at z) vars w n = int_light z
      eval_light (PBool at b) vars w n = bool_light b
      eval_light (PStr at text) vars w n = told_light _ w n (weighed_light _)
      eval_light (PNil at) vars w n = nil_light
      eval_light (PVar at x) vars w n = told_light _ w n (weighed_light _)
      eval_light (PSelf at) vars w n = told_light _ w n (weighed_light _)
      eval_light (PAttr at on x x_at) vars w n = told_light _ w n (weighed_light _)
      eval_light (PCall at on m m_at args) vars w n =
          then_light (eval s on vars w n) _ (eval_light on vars w n) (λ v w n l.
          of_all_light (eval_all s args [] vars w n) _ (all_light args [] vars w n no_value) (λ vs w n all. calls.call _ _ vs w n))
      eval_light (PApply at f args) vars w n = of_all_light (eval_all s args [] vars w n) _ (all_light args [] vars w n no_value) (λ vs w n all. applied_light (function_of f) f vs w n all)
      eval_light (PIndex at on index) vars w n =
          then_light (eval s on vars w n) _ (eval_light on vars w n) (λ v w n l.
          then_light (eval s index vars w n) _ (eval_light index vars w n) (λ i w n m. told_light _ w n (element_light (items_of v) (items_light v l) (int_of i))))
      eval_light (PList at items) vars w n = of_all_light (eval_all s items [] vars w n) _ (all_light items [] vars w n no_value) (λ vs w n all. told_light _ w n (weighed_light _))
      eval_light (PNeg at a) vars w n = then_light (eval s a vars w n) _ (eval_light a vars w n) (λ v w n l. told_light _ w n (in_range_light _))
      eval_light (PPos at a) vars w n = then_light (eval s a vars w n) _ (eval_light a vars w n) (λ v w n l. int_light _)
      eval_light (PNot at a) vars w n = then_light (eval s a vars w n) _ (eval_light a vars w n) (λ v w n l. bool_light _)
      eval_light (PChain at first links) vars w n = then_light (eval s first vars w n) _ (eval_light first vars w n) (λ v w n l. links_light links v vars w n l)
      eval_light (PAnd at items) vars w n = each_light true items vars w n
      eval_light (POr at items) vars w n = each_light false items vars w n
      eval_light (PCompare at op op_at left right) vars w n =
          then_light (eval s left vars w n) _ (eval_light left vars w n) (λ x w n l.
          then_light (eval s right vars w n) _ (eval_light right vars w n) (λ y w n m. bool_light _))
      eval_light (PIsNone at a positive) vars w n = then_light (eval s a vars w n) _ (eval_light a vars w n) (λ v w n l. bool_light _)
      eval_light (PCond at test a b) vars w n =
          then_light (eval s test vars w n) _ (eval_light test vars w n) (λ v w n l.
          if_light (is_true v) (eval s a vars w n) (eval s b vars w n) (eval_light a vars w n) (eval_light b vars w n))

      all_light : (es : PlainExprs) (vs : List Value) (vars : List Var) (w : W) (n : ℕ) → AreLight vs → GivesAllLight (eval_all s es vs vars w n)
      all_light PNoExpr vs vars w n all = all
      all_light (PExpr x xs) vs vars w n all = then_all_light (eval s x vars w n) _ (eval_light x vars w n) (λ v w n l. all_light xs (vs ++ v ∷ []) vars w n (light_behind vs v all l))

      links_light : (ls : PlainLinks) (v : Value) (vars : List Var) (w : W) (n : ℕ) → IsLight v → GivesLight (linked s ls v vars w n)
      links_light PNoLink v vars w n l = l
      links_light (PMoreLinks (PLink op at right) more) v vars w n l =
          then_light (eval s right vars w n) _ (eval_light right vars w n) (λ x w n m.
          then_light (told (combined op v x) w n) _ (told_light _ w n (combined_light op v x)) (λ both w n k. links_light more both vars w n k))

      each_light : (truth : Bool) (es : PlainExprs) (vars : List Var) (w : W) (n : ℕ) → GivesLight (each_is s truth es vars w n)
      each_light truth PNoExpr vars w n = bool_light truth
      each_light truth (PExpr x xs) vars w n =
          then_light (eval s x vars w n) _ (eval_light x vars w n) (λ v w n l.
          if_light (same_truth (is_true v) truth) (each_is s truth xs vars w n) (Got (value.Bool (not truth)) w n) (each_light truth xs vars w n) (bool_light _))

    pub value_light : (e : Option PlainExpr) (vars : List Var) (w : W) (n : ℕ) → GivesLight (value_or_none s e vars w n)
    unfolding value_or_none
    value_light None vars w n = nil_light
    value_light (Some e) vars w n = eval_light e vars w n

    items_given_light : (g : Gives W Value) → GivesLight g → GivesLightTurns (g >>= λ v w n. Got (Items (items_of v)) w n)
    items_given_light (Got v w n) l = items_light v l
    items_given_light (Fell f w n) l = tt

    numbers_given_light : (g : Gives W Value) (h : Value → W → ℕ → Gives W Value) → GivesLightTurns (g >>= λ u w n. h u w n >>= λ v w n. Got (Numbers (int_of u) (int_of v)) w n)
    numbers_given_light (Fell f w n) h = tt
    numbers_given_light (Got u w n) h = by (h u w n)
      where
        by : (g : Gives W Value) → GivesLightTurns (g >>= λ v w n. Got (Numbers (int_of u) (int_of v)) w n)
        by (Got v w n) = tt
        by (Fell f w n) = tt

    pub turns_light : (over : PlainOver) (vars : List Var) (w : W) (n : ℕ) → GivesLightTurns (turns_of s over vars w n)
    unfolding turns_of
    turns_light (PItems e) vars w n = items_given_light (eval s e vars w n) (eval_light e vars w n)
    turns_light (PRange start end) vars w n = numbers_given_light (start_of s start vars w n) (λ u w n. eval s end vars w n)
