-- An expression gives the same wherever the locals that it names have the same values.
use Rattle.std.proofs.Common.{◌≡◌, ◌<◌, ℕ, Bool, true, false, not, Option, Some, None, List, [], ◌∷◌, ◌++◌, if◌then◌else◌, refl, ap, ◌∙◌}
use Rattle.std.specs.Prelude.{IfSome}
use Rattle.py_tree.specs.declared.expr.BinOp.{BinOp}
use Rattle.py_tree.specs.declared.stmt.Target.{Target}
use Rattle.py_tree.specs.declared.stmt.Target.TheVariants as target
use Rattle.py_tree.specs.Bounded.{ExprNames, ExprsNames, LinksNames, OverNames, target_name}
use Rattle.py_tree.specs.PlainExpressions.{PlainExpr, PInt, PBool, PStr, PNil, PVar, PSelf, PAttr, PCall, PApply, PIndex, PList, PNeg, PPos, PNot, PChain, PAnd, POr, PCompare, PIsNone, PCond, PlainExprs, PNoExpr, PExpr, PLink, PlainLinks, PNoLink, PMoreLinks}
use Rattle.py_tree.specs.PlainStatements.{PlainOver, PRange, PItems}
use Rattle.sf_value.specs.declared.value.Value.{Value}
use Rattle.sf_value.specs.declared.value.Value.TheVariants as value
use Rattle.program_meaning.specs.declared.vars.Var.{Var}
use Rattle.program_meaning.specs.World.{Gives, Got, Fell, ◌>>=◌, told}
use Rattle.program_meaning.specs.Operations.{weighed, is_true, combined}
use Rattle.program_meaning.specs.Evaluation.{Site, eval, eval_all, linked, each_is, same_truth}
use Rattle.program_meaning.specs.Execution.{target_value, augmented, value_or_none, message, start_of, turns_of}
use Rattle.flat_tree.proofs.NamesBelow.{AgreeBelow}

pub either_same : {A : Type 0} (b : Bool) (x y u v : A) → x ≡ u → y ≡ v → (if b then x else y) ≡ (if b then u else v)
either_same true x y u v first second = first
either_same false x y u v first second = second

module _ {W : Type 0} where
  -- what follows is the same behind what is the same
  pub follows_same : {A B : Type 0} (g h : Gives W A) (k l : A → W → ℕ → Gives W B) → g ≡ h → ((x : A) (w : W) (n : ℕ) → k x w n ≡ l x w n) → (g >>= k) ≡ (h >>= l)
  follows_same g (Got x w n) k l same later = ap (λ y. y >>= k) same ∙ later x w n
  follows_same g (Fell f w n) k l same later = ap (λ y. y >>= k) same

  -- only what follows differs
  pub behind_same : {A B : Type 0} (g : Gives W A) (k l : A → W → ℕ → Gives W B) → ((x : A) (w : W) (n : ℕ) → k x w n ≡ l x w n) → (g >>= k) ≡ (g >>= l)
  behind_same g k l later = follows_same g g k l refl later

  module _ (s : Site W) {limit : ℕ} {us vs : List Var} (agree : AgreeBelow limit us vs) where
    mutual
      unfolding eval ExprNames

      pub eval_same : (e : PlainExpr) → ExprNames limit e → (w : W) (n : ℕ) → eval s e us w n ≡ eval s e vs w n
      eval_same (PInt at z) named w n = refl
      eval_same (PBool at b) named w n = refl
      eval_same (PStr at text) named w n = refl
      eval_same (PNil at) named w n = refl
      eval_same (PVar at x) named w n = ap (λ v. told (weighed v) w n) (agree.each x named)
      eval_same (PSelf at) named w n = refl
      eval_same (PAttr at on x x_at) named w n = refl
      eval_same (PCall at on m m_at args) named w n =
          follows_same (eval s on us w n) (eval s on vs w n) _ _ (eval_same on named.0 w n) (λ v w n.
          follows_same (eval_all s args [] us w n) (eval_all s args [] vs w n) _ _ (eval_all_same args named.2 [] w n) (λ xs w n. refl))
      eval_same (PApply at f args) named w n = follows_same (eval_all s args [] us w n) (eval_all s args [] vs w n) _ _ (eval_all_same args named.1 [] w n) (λ xs w n. refl)
      eval_same (PIndex at on index) named w n =
          follows_same (eval s on us w n) (eval s on vs w n) _ _ (eval_same on named.0 w n) (λ v w n.
          follows_same (eval s index us w n) (eval s index vs w n) _ _ (eval_same index named.1 w n) (λ i w n. refl))
      eval_same (PList at items) named w n = follows_same (eval_all s items [] us w n) (eval_all s items [] vs w n) _ _ (eval_all_same items named [] w n) (λ xs w n. refl)
      eval_same (PNeg at a) named w n = follows_same (eval s a us w n) (eval s a vs w n) _ _ (eval_same a named w n) (λ v w n. refl)
      eval_same (PPos at a) named w n = follows_same (eval s a us w n) (eval s a vs w n) _ _ (eval_same a named w n) (λ v w n. refl)
      eval_same (PNot at a) named w n = follows_same (eval s a us w n) (eval s a vs w n) _ _ (eval_same a named w n) (λ v w n. refl)
      eval_same (PChain at first links) named w n = follows_same (eval s first us w n) (eval s first vs w n) _ _ (eval_same first named.0 w n) (λ v w n. linked_same links named.1 v w n)
      eval_same (PAnd at items) named w n = each_same true items named w n
      eval_same (POr at items) named w n = each_same false items named w n
      eval_same (PCompare at op op_at left right) named w n =
          follows_same (eval s left us w n) (eval s left vs w n) _ _ (eval_same left named.0 w n) (λ x w n.
          follows_same (eval s right us w n) (eval s right vs w n) _ _ (eval_same right named.1 w n) (λ y w n. refl))
      eval_same (PIsNone at a positive) named w n = follows_same (eval s a us w n) (eval s a vs w n) _ _ (eval_same a named w n) (λ v w n. refl)
      eval_same (PCond at test a b) named w n =
          follows_same (eval s test us w n) (eval s test vs w n) _ _ (eval_same test named.0 w n) (λ v w n.
          either_same (is_true v) (eval s a us w n) (eval s b us w n) (eval s a vs w n) (eval s b vs w n) (eval_same a named.1 w n) (eval_same b named.2 w n))

      pub eval_all_same : (es : PlainExprs) → ExprsNames limit es → (xs : List Value) (w : W) (n : ℕ) → eval_all s es xs us w n ≡ eval_all s es xs vs w n
      eval_all_same PNoExpr named xs w n = refl
      eval_all_same (PExpr e es) named xs w n = follows_same (eval s e us w n) (eval s e vs w n) _ _ (eval_same e named.0 w n) (λ v w n. eval_all_same es named.1 (xs ++ v ∷ []) w n)

      pub linked_same : (ls : PlainLinks) → LinksNames limit ls → (v : Value) (w : W) (n : ℕ) → linked s ls v us w n ≡ linked s ls v vs w n
      linked_same PNoLink named v w n = refl
      linked_same (PMoreLinks (PLink op at right) more) named v w n =
          follows_same (eval s right us w n) (eval s right vs w n) _ _ (eval_same right named.0 w n) (λ x w n.
          behind_same (told (combined op v x) w n) _ _ (λ both w n. linked_same more named.1 both w n))

      each_same : (truth : Bool) (es : PlainExprs) → ExprsNames limit es → (w : W) (n : ℕ) → each_is s truth es us w n ≡ each_is s truth es vs w n
      each_same truth PNoExpr named w n = refl
      each_same truth (PExpr e es) named w n =
          follows_same (eval s e us w n) (eval s e vs w n) _ _ (eval_same e named.0 w n) (λ v w n.
          either_same (same_truth (is_true v) truth) (each_is s truth es us w n) (Got (value.Bool (not truth)) w n) (each_is s truth es vs w n) (Got (value.Bool (not truth)) w n) (each_same truth es named.1 w n) refl)

    pub target_same : (x : Target) (w : W) → target_name x < limit → target_value s x us w ≡ target_value s x vs w
    target_same (target.Local x) w below = agree.each x.name.0 below
    target_same (target.Field x) w below = refl

    pub augmented_same : (x : Target) (op : BinOp) (e : PlainExpr) (w : W) (n : ℕ) → target_name x < limit → ExprNames limit e → augmented s x op e us w n ≡ augmented s x op e vs w n
    unfolding augmented
    augmented_same x op e w n below named =
        follows_same (told (weighed (target_value s x us w)) w n) (told (weighed (target_value s x vs w)) w n) _ _ (ap (λ v. told (weighed v) w n) (target_same x w below)) (λ before w n.
        follows_same (eval s e us w n) (eval s e vs w n) _ _ (eval_same e named w n) (λ v w n. refl))

    pub message_same : (e : Option PlainExpr) (w : W) (n : ℕ) → IfSome e (ExprNames limit) → message s e us w n ≡ message s e vs w n
    unfolding message
    message_same None w n named = refl
    message_same (Some e) w n named = follows_same (eval s e us w n) (eval s e vs w n) _ _ (eval_same e named w n) (λ v w n. refl)

    pub value_same : (e : Option PlainExpr) (w : W) (n : ℕ) → IfSome e (ExprNames limit) → value_or_none s e us w n ≡ value_or_none s e vs w n
    unfolding value_or_none
    value_same None w n named = refl
    value_same (Some e) w n named = eval_same e named w n

    start_same : (e : Option PlainExpr) (w : W) (n : ℕ) → IfSome e (ExprNames limit) → start_of s e us w n ≡ start_of s e vs w n
    unfolding start_of
    start_same None w n named = refl
    start_same (Some e) w n named = eval_same e named w n

    pub turns_same : (over : PlainOver) (w : W) (n : ℕ) → OverNames limit over → turns_of s over us w n ≡ turns_of s over vs w n
    unfolding turns_of
    turns_same (PItems e) w n named = follows_same (eval s e us w n) (eval s e vs w n) _ _ (eval_same e named w n) (λ v w n. refl)
    turns_same (PRange start end) w n named =
        follows_same (start_of s start us w n) (start_of s start vs w n) _ _ (start_same start w n named.0) (λ u w n.
        follows_same (eval s end us w n) (eval s end vs w n) _ _ (eval_same end named.1 w n) (λ v w n. refl))
