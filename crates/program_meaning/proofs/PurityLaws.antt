-- Pure expressions: what makes each kind one, and that they leave the world and the steps as they are.
use Rattle.std.proofs.Common.{◌≡◌, ◌<◌, ◌≤◌, ◌+◌, ℕ, ℤ, pos, ◌-ℤ◌, Bool, true, false, not, ◌&&◌, List, [], ◌∷◌, ◌++◌, if◌then◌else◌, drop, get_or, length, Option, Some, None, Ok, Err, Result, true≢false, refl, sym, ap, subst}
use Rattle.std.specs.Prelude.{is_some}
use Rattle.std.specs.declared.alloc.Global.{Global}
use Rattle.std.specs.declared.boxed.Box.{Box}
use Rattle.py_tree.specs.declared.names.Name.{Name}
use Rattle.py_tree.specs.declared.names.Place.{Place}
use Rattle.py_tree.specs.declared.names.PlacedName.{PlacedName}
use Rattle.py_tree.specs.declared.expr.Cmp.{Cmp}
use Rattle.py_tree.specs.declared.expr.Expr.{Expr}
use Rattle.py_tree.specs.declared.expr.Link.{Link}
use Rattle.py_tree.specs.declared.expr.ExprKind as e
use Rattle.py_tree.specs.ExpressionTypes.{Function, function_of}
use Rattle.py_tree.specs.PlainExpressions.{PlainExpr, PInt, PBool, PStr, PNil, PVar, PSelf, PAttr, PCall, PApply, PIndex, PList, PNeg, PPos, PNot, PChain, PAnd, POr, PCompare, PIsNone, PCond, PlainExprs, PNoExpr, PExpr, PLink, PlainLinks, PNoLink, PMoreLinks, plain_kind, plain_expr, plain_exprs, exprs_of, plain_links, links_of}
use Rattle.py_tree.proofs.Views.{plain-Int, plain-Bool, plain-Str, plain-Nil, plain-Var, plain-SelfRef, plain-Attr, plain-Call, plain-Apply, plain-Index, plain-List, plain-Neg, plain-Pos, plain-Not, plain-Chain, plain-And, plain-Or, plain-Compare, plain-IsNone, plain-Cond}
use Rattle.py_tree.proofs.ListWalks.{exprs_from, exprs_end, links_from, links_end}
use Rattle.sf_value.specs.declared.value.Value.{Value}
use Rattle.sf_value.specs.declared.value.Value.TheVariants as value
use Rattle.sf_value.specs.declared.Failure.{Failure}
use Rattle.program_meaning.specs.declared.vars.Var.{Var}
use Rattle.program_meaning.specs.World.{Gives, Got, Fell, ◌>>=◌, told, local_value}
use Rattle.program_meaning.specs.Operations.{in_range, weighed, int_of, is_true, items_of, element, combined, given_by}
use Rattle.program_meaning.specs.Evaluation.{Site, eval, eval_all, linked, each_is, same_truth, applied, entity, literal, own_field}
use Rattle.program_meaning.specs.Purity.{is_pure, all_pure, links_pure}
use Rattle.program_meaning.proofs.TypedParts.{both_true}

module _ (at : Place) where
  pub pure-Int : (x : ℤ) → is_pure (plain_kind (e.Int x) at) ≡ true
  unfolding is_pure
  pure-Int x = ap is_pure (plain-Int at x)

  pub pure-Bool : (b : Bool) → is_pure (plain_kind (e.Bool b) at) ≡ true
  unfolding is_pure
  pure-Bool b = ap is_pure (plain-Bool at b)

  pub pure-Str : (x : Name) → is_pure (plain_kind (e.Str x) at) ≡ true
  unfolding is_pure
  pure-Str x = ap is_pure (plain-Str at x)

  pub pure-Nil : is_pure (plain_kind e.Nil at) ≡ true
  unfolding is_pure
  pure-Nil = ap is_pure (plain-Nil at)

  pub pure-Var : (x : Name) → is_pure (plain_kind (e.Var x) at) ≡ true
  unfolding is_pure
  pure-Var x = ap is_pure (plain-Var at x)

  pub pure-SelfRef : is_pure (plain_kind e.SelfRef at) ≡ true
  unfolding is_pure
  pure-SelfRef = ap is_pure (plain-SelfRef at)

  pub pure-Attr : (a : Box Expr Global) (x : PlacedName) → is_pure (plain_kind (e.Attr a x) at) ≡ true
  unfolding is_pure
  pure-Attr a x = ap is_pure (plain-Attr at a x)

  pub pure-Call : (a : Box Expr Global) (x : PlacedName) (xs : List Expr) → is_pure (plain_kind (e.Call a x xs) at) ≡ false
  unfolding is_pure
  pure-Call a x xs = ap is_pure (plain-Call at a x xs)

  pub pure-Apply : (x : Name) (xs : List Expr) → is_pure (plain_kind (e.Apply x xs) at) ≡ (is_some (function_of x.0) && all_pure (exprs_of (plain_exprs xs)))
  unfolding is_pure
  pure-Apply x xs = ap is_pure (plain-Apply at x xs)

  pub pure-Index : (a b : Box Expr Global) → is_pure (plain_kind (e.Index a b) at) ≡ (is_pure (plain_expr a.value) && is_pure (plain_expr b.value))
  unfolding is_pure
  pure-Index a b = ap is_pure (plain-Index at a b)

  pub pure-List : (xs : List Expr) → is_pure (plain_kind (e.List xs) at) ≡ all_pure (exprs_of (plain_exprs xs))
  unfolding is_pure
  pure-List xs = ap is_pure (plain-List at xs)

  pub pure-Neg : (a : Box Expr Global) → is_pure (plain_kind (e.Neg a) at) ≡ is_pure (plain_expr a.value)
  unfolding is_pure
  pure-Neg a = ap is_pure (plain-Neg at a)

  pub pure-Pos : (a : Box Expr Global) → is_pure (plain_kind (e.Pos a) at) ≡ is_pure (plain_expr a.value)
  unfolding is_pure
  pure-Pos a = ap is_pure (plain-Pos at a)

  pub pure-Not : (a : Box Expr Global) → is_pure (plain_kind (e.Not a) at) ≡ is_pure (plain_expr a.value)
  unfolding is_pure
  pure-Not a = ap is_pure (plain-Not at a)

  pub pure-Chain : (a : Box Expr Global) (ls : List Link) → is_pure (plain_kind (e.Chain a ls) at) ≡ (is_pure (plain_expr a.value) && links_pure (links_of (plain_links ls)))
  unfolding is_pure
  pure-Chain a ls = ap is_pure (plain-Chain at a ls)

  pub pure-And : (xs : List Expr) → is_pure (plain_kind (e.And xs) at) ≡ all_pure (exprs_of (plain_exprs xs))
  unfolding is_pure
  pure-And xs = ap is_pure (plain-And at xs)

  pub pure-Or : (xs : List Expr) → is_pure (plain_kind (e.Or xs) at) ≡ all_pure (exprs_of (plain_exprs xs))
  unfolding is_pure
  pure-Or xs = ap is_pure (plain-Or at xs)

  pub pure-Compare : (op : Cmp) (op_at : Place) (a b : Box Expr Global) → is_pure (plain_kind (e.Compare op op_at a b) at) ≡ (is_pure (plain_expr a.value) && is_pure (plain_expr b.value))
  unfolding is_pure
  pure-Compare op op_at a b = ap is_pure (plain-Compare at op op_at a b)

  pub pure-IsNone : (a : Box Expr Global) (positive : Bool) → is_pure (plain_kind (e.IsNone a positive) at) ≡ is_pure (plain_expr a.value)
  unfolding is_pure
  pure-IsNone a positive = ap is_pure (plain-IsNone at a positive)

  pub pure-Cond : (a b d : Box Expr Global) → is_pure (plain_kind (e.Cond a b d) at) ≡ (is_pure (plain_expr a.value) && (is_pure (plain_expr b.value) && is_pure (plain_expr d.value)))
  unfolding is_pure
  pure-Cond a b d = ap is_pure (plain-Cond at a b d)

pub ruleset pure_is = (pure-Int, pure-Bool, pure-Str, pure-Nil, pure-Var, pure-SelfRef, pure-Attr, pure-Call, pure-Apply, pure-Index, pure-List, pure-Neg, pure-Pos, pure-Not, pure-Chain, pure-And, pure-Or, pure-Compare, pure-IsNone, pure-Cond)

pub exprs_more : (es : List Expr) (i : ℕ) (x : Expr) → i < length es → x ≡ get_or es i x → all_pure (exprs_of (plain_exprs (drop i es))) ≡ (is_pure (plain_expr x) && all_pure (exprs_of (plain_exprs (drop (i + 1) es))))
unfolding all_pure
exprs_more es i x within is = ap all_pure (exprs_from es i x within is)

pub exprs_done : (es : List Expr) (i : ℕ) → length es ≤ i → all_pure (exprs_of (plain_exprs (drop i es))) ≡ true
unfolding all_pure
exprs_done es i past = ap all_pure (exprs_end es i past)

pub links_more : (ls : List Link) (i : ℕ) (l : Link) → i < length ls → l ≡ get_or ls i l → links_pure (links_of (plain_links (drop i ls))) ≡ (is_pure (plain_expr l.right) && links_pure (links_of (plain_links (drop (i + 1) ls))))
unfolding links_pure
links_more ls i l within is = ap links_pure (links_from ls i l within is)

pub links_done : (ls : List Link) (i : ℕ) → length ls ≤ i → links_pure (links_of (plain_links (drop i ls))) ≡ true
unfolding links_pure
links_done ls i past = ap links_pure (links_end ls i past)

pub ruleset list_rules = (exprs_more, exprs_done)

pub ruleset link_rules = (links_more, links_done)

-- what is given in the world and with the steps that there were
abbrev pub Stays : {W A : Type 0} → W → ℕ → Gives W A → Type 0
Stays w n (Got x v m) = (v ≡ w) × (m ≡ n)
Stays w n (Fell f v m) = (v ≡ w) × (m ≡ n)

module _ {W : Type 0} (w : W) (n : ℕ) where
  told_stays : (r : Result Value Failure) → Stays w n (told r w n)
  told_stays (Ok v) = (refl, refl)
  told_stays (Err f) = (refl, refl)

  then_stays : {A B : Type 0} (g : Gives W A) (f : A → W → ℕ → Gives W B) → Stays w n g → ((x : A) → Stays w n (f x w n)) → Stays w n (g >>= f)
  then_stays (Got x v m) f stays later = subst (λ k. Stays w n (f x v k)) (sym stays.1) (subst (λ u. Stays w n (f x u n)) (sym stays.0) (later x))
  then_stays (Fell e v m) f stays later = stays

  if_stays : {A : Type 0} (b : Bool) (g h : Gives W A) → Stays w n g → Stays w n h → Stays w n (if b then g else h)
  if_stays true g h first second = first
  if_stays false g h first second = second

  module _ (s : Site W) where
    applied_stays : (o : Option Function) (name : ℕ) (args : List Value) → is_some o ≡ true → Stays w n (applied s o name args w n)
    applied_stays None name args is = absurd (true≢false (sym is))
    applied_stays (Some f) name args is = told_stays (given_by f args)

    mutual
      unfolding eval is_pure

      pub eval_stays : (e : PlainExpr) (vars : List Var) → is_pure e ≡ true → Stays w n (eval s e vars w n)
      eval_stays (PInt at z) vars is = (refl, refl)
      eval_stays (PBool at b) vars is = (refl, refl)
      eval_stays (PStr at text) vars is = told_stays (weighed (value.Str (literal s.src text)))
      eval_stays (PNil at) vars is = (refl, refl)
      eval_stays (PVar at x) vars is = told_stays (weighed (local_value vars x))
      eval_stays (PSelf at) vars is = told_stays (weighed (entity s.me))
      eval_stays (PAttr at on x x_at) vars is = told_stays (weighed (own_field s x w))
      eval_stays (PCall at on m m_at args) vars is = absurd (true≢false (sym is))
      eval_stays (PApply at f args) vars is =
          let both = both_true (is_some (function_of f)) (all_pure args) is in
          then_stays (eval_all s args [] vars w n) _ (all_stays args [] vars both.1) (λ vs. applied_stays (function_of f) f vs both.0)
      eval_stays (PIndex at on index) vars is =
          let both = both_true (is_pure on) (is_pure index) is in
          then_stays (eval s on vars w n) _ (eval_stays on vars both.0) (λ v. then_stays (eval s index vars w n) _ (eval_stays index vars both.1) (λ i. told_stays (element (items_of v) (int_of i))))
      eval_stays (PList at items) vars is = then_stays (eval_all s items [] vars w n) _ (all_stays items [] vars is) (λ vs. told_stays (weighed (value.List vs)))
      eval_stays (PNeg at a) vars is = then_stays (eval s a vars w n) _ (eval_stays a vars is) (λ v. told_stays (in_range (pos 0 -ℤ int_of v)))
      eval_stays (PPos at a) vars is = then_stays (eval s a vars w n) _ (eval_stays a vars is) (λ v. (refl, refl))
      eval_stays (PNot at a) vars is = then_stays (eval s a vars w n) _ (eval_stays a vars is) (λ v. (refl, refl))
      eval_stays (PChain at first links) vars is =
          let both = both_true (is_pure first) (links_pure links) is in
          then_stays (eval s first vars w n) _ (eval_stays first vars both.0) (λ v. links_stay links v vars both.1)
      eval_stays (PAnd at items) vars is = each_stays true items vars is
      eval_stays (POr at items) vars is = each_stays false items vars is
      eval_stays (PCompare at op op_at left right) vars is =
          let both = both_true (is_pure left) (is_pure right) is in
          then_stays (eval s left vars w n) _ (eval_stays left vars both.0) (λ x. then_stays (eval s right vars w n) _ (eval_stays right vars both.1) (λ y. (refl, refl)))
      eval_stays (PIsNone at a positive) vars is = then_stays (eval s a vars w n) _ (eval_stays a vars is) (λ v. (refl, refl))
      eval_stays (PCond at test a b) vars is =
          let both = both_true (is_pure test) (is_pure a && is_pure b) is in
          let each = both_true (is_pure a) (is_pure b) both.1 in
          then_stays (eval s test vars w n) _ (eval_stays test vars both.0) (λ v. if_stays (is_true v) (eval s a vars w n) (eval s b vars w n) (eval_stays a vars each.0) (eval_stays b vars each.1))

      all_stays : (es : PlainExprs) (vs : List Value) (vars : List Var) → all_pure es ≡ true → Stays w n (eval_all s es vs vars w n)
      all_stays PNoExpr vs vars is = (refl, refl)
      all_stays (PExpr x xs) vs vars is =
          let both = both_true (is_pure x) (all_pure xs) is in
          then_stays (eval s x vars w n) _ (eval_stays x vars both.0) (λ v. all_stays xs (vs ++ v ∷ []) vars both.1)

      links_stay : (ls : PlainLinks) (v : Value) (vars : List Var) → links_pure ls ≡ true → Stays w n (linked s ls v vars w n)
      links_stay PNoLink v vars is = (refl, refl)
      links_stay (PMoreLinks (PLink op at right) more) v vars is =
          let both = both_true (is_pure right) (links_pure more) is in
          then_stays (eval s right vars w n) _ (eval_stays right vars both.0) (λ x. then_stays (told (combined op v x) w n) _ (told_stays (combined op v x)) (λ y. links_stay more y vars both.1))

      each_stays : (truth : Bool) (es : PlainExprs) (vars : List Var) → all_pure es ≡ true → Stays w n (each_is s truth es vars w n)
      each_stays truth PNoExpr vars is = (refl, refl)
      each_stays truth (PExpr x xs) vars is =
          let both = both_true (is_pure x) (all_pure xs) is in
          then_stays (eval s x vars w n) _ (eval_stays x vars both.0) (λ v. if_stays (same_truth (is_true v) truth) (each_is s truth xs vars w n) (Got (value.Bool (not truth)) w n) (each_stays truth xs vars both.1) (refl, refl))

-- a pure expression gives its value where it was evaluated
pub pure_stays : {W : Type 0} (s : Site W) (e : PlainExpr) (vars : List Var) (w v : W) (n m : ℕ) (x : Value) → is_pure e ≡ true → eval s e vars w n ≡ Got x v m → (v ≡ w) × (m ≡ n)
pure_stays s e vars w v n m x is gives = subst (Stays w n) gives (eval_stays w n s e vars is)
