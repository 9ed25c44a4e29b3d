-- An expression that has a type reads the locals that are surely assigned.
use Rattle.std.proofs.Common.{◌≡◌, ℕ, arith, Bool, true, false, not, Option, Some, None, Ok, List, [], ◌∷◌, ◌++◌, length, if◌then◌else◌, refl, sym, ap, ◌∙◌}
use Rattle.std.specs.Prelude.{◌==◌, option_and_then}
use Rattle.std.specs.declared.result.Result.{Result}
use Rattle.std.proofs.lemmas.Bool.{eqb-true}
use Rattle.py_tree.specs.declared.names.Place.{Place}
use Rattle.py_tree.specs.declared.rule.Rule.TheVariants.{UnknownName, Unassigned, Mismatch}
use Rattle.py_tree.specs.declared.rule.RuleFault.{RuleFault}
use Rattle.py_tree.specs.PlainTypes.{PlainTy, TInt, TBool, TList, TEntity}
use Rattle.py_tree.specs.PlainExpressions.{PlainExpr, PInt, PBool, PStr, PNil, PVar, PSelf, PAttr, PCall, PApply, PIndex, PList, PNeg, PPos, PNot, PChain, PAnd, POr, PCompare, PIsNone, PCond, PlainExprs, PNoExpr, PExpr, PLink, PlainLinks, PNoLink, PMoreLinks}
use Rattle.py_tree.specs.ClassRules.{PlainSigParam, PlainSig, PlainTable}
use Rattle.py_tree.specs.FlowEnvironment.{PlainLocal, PlainEnv, local_of, where_test, shown}
use Rattle.py_tree.specs.ExpressionTypes as t
use Rattle.py_tree.specs.ExpressionTypes.{join, table_named, Function, function_of, refuse_if, with_found, place_of, count_of, fits, operand, as_condition, element_wanted, right_wanted, read_ty, assignable, type_of_name, type_of, conditions, arguments, list_of, elements}
use Rattle.sf_value.specs.declared.value.Value.{Value}
use Rattle.sf_value.specs.declared.value.Value.TheVariants as value
use Rattle.program_meaning.specs.declared.vars.Var.{Var}
use Rattle.program_meaning.specs.World.{Gives, Got, Fell, ◌>>=◌, told, local_value}
use Rattle.program_meaning.specs.Operations.{weighed, is_true, combined}
use Rattle.program_meaning.specs.Evaluation.{Site, same_truth, eval, eval_all, linked, each_is}
use Rattle.program_meaning.proofs.TypedParts.{done, found_ok, needs_ok, passes_ok, operand_ok, condition_ok, typed_index, typed_call, typed_number, typed_compare, typed_none_test, typed_chain, typed_cond, typed_apply, typed_function, typed_creation, type_given}
use Rattle.assigned_locals.proofs.SureNames.{sure, found_is_sure, Agree, agree_narrowed}

pub name_reads : (locals : List PlainLocal) (at : Place) (x : ℕ) (ty : PlainTy) (us vs : List Var) → type_of_name locals at x ≡ Ok ty → Agree (sure locals) us vs → local_value us x ≡ local_value vs x
unfolding type_of_name
name_reads locals at x ty us vs h a =
    let f : (l : PlainLocal) × (local_of locals x ≡ Some l) × (refuse_if (not l.assigned) Unassigned at (Ok (read_ty l)) ≡ Ok ty) = needs_ok (local_of locals x) UnknownName at (λ l. refuse_if (not l.assigned) Unassigned at (Ok (read_ty l))) ty h in
    let g : (f.0.assigned ≡ true) × (done (read_ty f.0) ≡ Ok ty) = passes_ok f.0.assigned Unassigned at (Ok (read_ty f.0)) ty f.2 in
    a x (sym (found_is_sure locals x f.0 f.1) ∙ g.0)

module _ {W : Type 0} where
  pub then_same : {A B : Type 0} (g h : Gives W A) (k l : A → W → ℕ → Gives W B) → g ≡ h → ((x : A) (w : W) (n : ℕ) → k x w n ≡ l x w n) → (g >>= k) ≡ (h >>= l)
  then_same g (Got x w n) k l same later = ap (λ y. y >>= k) same ∙ later x w n
  then_same g (Fell f w n) k l same later = ap (λ y. y >>= k) same

  if_same : {A : Type 0} (b : Bool) (g h k l : Gives W A) → g ≡ k → h ≡ l → (if b then g else h) ≡ (if b then k else l)
  if_same true g h k l first second = first
  if_same false g h k l first second = second

  -- what a function or a creation gives, once its arguments agree
  applied_reads : (s : Site W) (tables : List PlainTable) (env : PlainEnv) (o : Option Function) (x : ℕ) (at : Place) (args : PlainExprs) (ty : PlainTy) (us vs : List Var) (w : W) (n : ℕ)
      → t.applied o (table_named tables x) at (count_of args) (λ test result. t.each_is test tables env args result) (λ params result. arguments tables env args params result) ≡ Ok ty
      → ((test : PlainTy → Bool) (result : PlainTy) → t.each_is test tables env args result ≡ Ok ty → eval_all s args [] us w n ≡ eval_all s args [] vs w n)
      → ((params : List PlainSigParam) (result : PlainTy) → count_of args ≡ length params → arguments tables env args params result ≡ Ok ty → eval_all s args [] us w n ≡ eval_all s args [] vs w n)
      → eval_all s args [] us w n ≡ eval_all s args [] vs w n
  applied_reads s tables env (Some f) x at args ty us vs w n h each fit =
      let a : (test : PlainTy → Bool) × (t.each_is test tables env args (type_given f) ≡ Ok ty) = typed_function (table_named tables x) at (count_of args) (λ test result. t.each_is test tables env args result) (λ params result. arguments tables env args params result) ty f h in
      each a.0 (type_given f) a.1
  applied_reads s tables env None x at args ty us vs w n h each fit =
      let a : (c : PlainTable) × (table_named tables x ≡ Some c) × ((count_of args == length c.init) ≡ true) × (arguments tables env args c.init (TEntity c.name) ≡ Ok ty) = typed_creation (table_named tables x) at (count_of args) (λ test result. t.each_is test tables env args result) (λ params result. arguments tables env args params result) ty h in
      fit a.0.init (TEntity a.0.name) (eqb-true (count_of args) (length a.0.init) a.2) a.3

  module _ (s : Site W) (tables : List PlainTable) (us vs : List Var) where
    mutual
      unfolding eval type_of where_test

      pub eval_reads : (e : PlainExpr) (env : PlainEnv) (wanted : Option PlainTy) (ty : PlainTy) → type_of tables env wanted e ≡ Ok ty → Agree (sure env.locals) us vs → (w : W) (n : ℕ) → eval s e us w n ≡ eval s e vs w n
      eval_reads (PInt at z) env wanted ty h a w n = refl
      eval_reads (PBool at b) env wanted ty h a w n = refl
      eval_reads (PStr at text) env wanted ty h a w n = refl
      eval_reads (PNil at) env wanted ty h a w n = refl
      eval_reads (PVar at x) env wanted ty h a w n = ap (λ v. told (weighed v) w n) (name_reads env.locals at x ty us vs h a)
      eval_reads (PSelf at) env wanted ty h a w n = refl
      eval_reads (PAttr at on x x_at) env wanted ty h a w n = refl
      eval_reads (PCall at on x x_at args) env wanted ty h a w n =
          let p : (c : ℕ) × (m : PlainSig) × (type_of tables env None on ≡ Ok (TEntity c)) × (t.method_of tables c x ≡ Some m) × ((count_of args == length m.params) ≡ true) × (arguments tables env args m.params m.result ≡ Ok ty) = typed_call tables env wanted at ty on x x_at args h in
          then_same (eval s on us w n) (eval s on vs w n) _ _ (eval_reads on env None (TEntity p.0) p.2 a w n) (λ v w n.
          then_same (eval_all s args [] us w n) (eval_all s args [] vs w n) _ _ (all_read args env p.1.params p.1.result ty (eqb-true (count_of args) (length p.1.params) p.4) p.5 a [] w n) (λ xs w n. refl))
      eval_reads (PApply at x args) env wanted ty h a w n =
          then_same (eval_all s args [] us w n) (eval_all s args [] vs w n) _ _
          (applied_reads s tables env (function_of x) x at args ty us vs w n (typed_apply tables env wanted at ty x args h)
          (λ test result e. each_read args env test result ty e a [] w n)
          (λ params result count e. all_read args env params result ty count e a [] w n))
          (λ xs w n. refl)
      eval_reads (PIndex at on index) env wanted ty h a w n =
          let p : (type_of tables env None on ≡ Ok (TList ty)) × (type_of tables env None index ≡ Ok TInt) = typed_index tables env wanted at ty on index h in
          then_same (eval s on us w n) (eval s on vs w n) _ _ (eval_reads on env None (TList ty) p.0 a w n) (λ v w n.
          then_same (eval s index us w n) (eval s index vs w n) _ _ (eval_reads index env None TInt p.1 a w n) (λ i w n. refl))
      eval_reads (PList at items) env wanted ty h a w n = then_same (eval_all s items [] us w n) (eval_all s items [] vs w n) _ _ (list_reads items env (option_and_then element_wanted wanted) at ty h a w n) (λ xs w n. refl)
      eval_reads (PNeg at e) env wanted ty h a w n =
          let p : (type_of tables env None e ≡ Ok TInt) × (ty ≡ TInt) = typed_number tables env wanted at ty e h in
          then_same (eval s e us w n) (eval s e vs w n) _ _ (eval_reads e env None TInt p.0 a w n) (λ v w n. refl)
      eval_reads (PPos at e) env wanted ty h a w n =
          let p : (type_of tables env None e ≡ Ok TInt) × (ty ≡ TInt) = typed_number tables env wanted at ty e h in
          then_same (eval s e us w n) (eval s e vs w n) _ _ (eval_reads e env None TInt p.0 a w n) (λ v w n. refl)
      eval_reads (PNot at e) env wanted ty h a w n =
          let p : (type_of tables env None e ≡ Ok TBool) × (ty ≡ TBool) = condition_ok (place_of e) (type_of tables env None e) ty h in
          then_same (eval s e us w n) (eval s e vs w n) _ _ (eval_reads e env None TBool p.0 a w n) (λ v w n. refl)
      eval_reads (PChain at first links) env wanted ty h a w n =
          let p : (u : PlainTy) × (type_of tables env None first ≡ Ok u) × (t.linked tables env u links ≡ Ok ty) = typed_chain tables env wanted at ty first links h in
          then_same (eval s first us w n) (eval s first vs w n) _ _ (eval_reads first env None p.0 p.1 a w n) (λ v w n. links_read links env p.0 ty p.2 a v w n)
      eval_reads (PAnd at items) env wanted ty h a w n = conditions_read true items env ty h a w n
      eval_reads (POr at items) env wanted ty h a w n = conditions_read false items env ty h a w n
      eval_reads (PCompare at o op_at left right) env wanted ty h a w n =
          let p : (u : PlainTy) × (y : PlainTy) × (type_of tables env None left ≡ Ok u) × (type_of tables env None right ≡ Ok y) × (ty ≡ TBool) = typed_compare tables env wanted at ty o op_at left right h in
          then_same (eval s left us w n) (eval s left vs w n) _ _ (eval_reads left env None p.0 p.2 a w n) (λ x w n.
          then_same (eval s right us w n) (eval s right vs w n) _ _ (eval_reads right env None p.1 p.3 a w n) (λ y w n. refl))
      eval_reads (PIsNone at e positive) env wanted ty h a w n =
          let p : (u : PlainTy) × (type_of tables env None e ≡ Ok u) × (ty ≡ TBool) = typed_none_test tables env wanted at ty e positive h in
          then_same (eval s e us w n) (eval s e vs w n) _ _ (eval_reads e env None p.0 p.1 a w n) (λ v w n. refl)
      eval_reads (PCond at test e f) env wanted ty h a w n =
          let p : (x : PlainTy) × (y : PlainTy) × (type_of tables env None test ≡ Ok TBool) × (type_of tables (where_test true test env) wanted e ≡ Ok x) × (type_of tables (where_test false test env) wanted f ≡ Ok y) × (join x y ≡ Some ty) = typed_cond tables env wanted at ty test e f h in
          then_same (eval s test us w n) (eval s test vs w n) _ _ (eval_reads test env None TBool p.2 a w n) (λ v w n.
          if_same (is_true v) (eval s e us w n) (eval s f us w n) (eval s e vs w n) (eval s f vs w n)
          (eval_reads e (where_test true test env) wanted p.0 p.3 (agree_narrowed (shown true test) env.locals us vs a) w n)
          (eval_reads f (where_test false test env) wanted p.1 p.4 (agree_narrowed (shown false test) env.locals us vs a) w n))

      -- as many arguments as parameters
      pub all_read : (xs : PlainExprs) (env : PlainEnv) (params : List PlainSigParam) (result ty : PlainTy) → count_of xs ≡ length params → arguments tables env xs params result ≡ Ok ty → Agree (sure env.locals) us vs
          → (so_far : List Value) (w : W) (n : ℕ) → eval_all s xs so_far us w n ≡ eval_all s xs so_far vs w n
      all_read PNoExpr env params result ty count h a so_far w n = refl
      all_read (PExpr x xs) env [] result ty count h a so_far w n = absurd (omega (arith, count))
      all_read (PExpr x xs) env (q ∷ ps) result ty count h a so_far w n =
          let p : (u : PlainTy) × (type_of tables env (Some q.ty) x ≡ Ok u) × (fits u q.ty (place_of x) (arguments tables env xs ps result) ≡ Ok ty) = found_ok (type_of tables env (Some q.ty) x) (λ u. fits u q.ty (place_of x) (arguments tables env xs ps result)) ty h in
          let r : (assignable p.0 q.ty ≡ true) × (arguments tables env xs ps result ≡ Ok ty) = passes_ok (assignable p.0 q.ty) Mismatch (place_of x) (arguments tables env xs ps result) ty p.2 in
          let left : count_of xs ≡ length ps = omega (arith, count) in
          then_same (eval s x us w n) (eval s x vs w n) _ _ (eval_reads x env (Some q.ty) p.0 p.1 a w n) (λ v w n. all_read xs env ps result ty left r.1 a (so_far ++ v ∷ []) w n)

      each_read : (xs : PlainExprs) (env : PlainEnv) (test : PlainTy → Bool) (result ty : PlainTy) → t.each_is test tables env xs result ≡ Ok ty → Agree (sure env.locals) us vs
          → (so_far : List Value) (w : W) (n : ℕ) → eval_all s xs so_far us w n ≡ eval_all s xs so_far vs w n
      each_read PNoExpr env test result ty h a so_far w n = refl
      each_read (PExpr x xs) env test result ty h a so_far w n =
          let p : (u : PlainTy) × (type_of tables env None x ≡ Ok u) × (operand u test (place_of x) (t.each_is test tables env xs result) ≡ Ok ty) = found_ok (type_of tables env None x) (λ u. operand u test (place_of x) (t.each_is test tables env xs result)) ty h in
          then_same (eval s x us w n) (eval s x vs w n) _ _ (eval_reads x env None p.0 p.1 a w n) (λ v w n.
          each_read xs env test result ty (operand_ok p.0 test (place_of x) (t.each_is test tables env xs result) ty p.2).1 a (so_far ++ v ∷ []) w n)

      list_reads : (xs : PlainExprs) (env : PlainEnv) (wanted : Option PlainTy) (at : Place) (ty : PlainTy) → list_of tables env wanted at xs ≡ Ok ty → Agree (sure env.locals) us vs
          → (w : W) (n : ℕ) → eval_all s xs [] us w n ≡ eval_all s xs [] vs w n
      list_reads PNoExpr env wanted at ty h a w n = refl
      list_reads (PExpr x xs) env None at ty h a w n =
          let p : (u : PlainTy) × (type_of tables env None x ≡ Ok u) × (elements tables env u xs ≡ Ok ty) = found_ok (type_of tables env None x) (λ u. elements tables env u xs) ty h in
          then_same (eval s x us w n) (eval s x vs w n) _ _ (eval_reads x env None p.0 p.1 a w n) (λ v w n. elements_read xs env p.0 ty p.2 a ([] ++ v ∷ []) w n)
      list_reads (PExpr x xs) env (Some e) at ty h a w n =
          let p : (u : PlainTy) × (type_of tables env (Some e) x ≡ Ok u) × (fits u e (place_of x) (elements tables env e xs) ≡ Ok ty) = found_ok (type_of tables env (Some e) x) (λ u. fits u e (place_of x) (elements tables env e xs)) ty h in
          let r : (assignable p.0 e ≡ true) × (elements tables env e xs ≡ Ok ty) = passes_ok (assignable p.0 e) Mismatch (place_of x) (elements tables env e xs) ty p.2 in
          then_same (eval s x us w n) (eval s x vs w n) _ _ (eval_reads x env (Some e) p.0 p.1 a w n) (λ v w n. elements_read xs env e ty r.1 a ([] ++ v ∷ []) w n)

      elements_read : (xs : PlainExprs) (env : PlainEnv) (e ty : PlainTy) → elements tables env e xs ≡ Ok ty → Agree (sure env.locals) us vs
          → (so_far : List Value) (w : W) (n : ℕ) → eval_all s xs so_far us w n ≡ eval_all s xs so_far vs w n
      elements_read PNoExpr env e ty h a so_far w n = refl
      elements_read (PExpr x xs) env e ty h a so_far w n =
          let p : (u : PlainTy) × (type_of tables env (Some e) x ≡ Ok u) × (fits u e (place_of x) (elements tables env e xs) ≡ Ok ty) = found_ok (type_of tables env (Some e) x) (λ u. fits u e (place_of x) (elements tables env e xs)) ty h in
          let r : (assignable p.0 e ≡ true) × (elements tables env e xs ≡ Ok ty) = passes_ok (assignable p.0 e) Mismatch (place_of x) (elements tables env e xs) ty p.2 in
          then_same (eval s x us w n) (eval s x vs w n) _ _ (eval_reads x env (Some e) p.0 p.1 a w n) (λ v w n. elements_read xs env e ty r.1 a (so_far ++ v ∷ []) w n)

      links_read : (ls : PlainLinks) (env : PlainEnv) (left ty : PlainTy) → t.linked tables env left ls ≡ Ok ty → Agree (sure env.locals) us vs
          → (v : Value) (w : W) (n : ℕ) → linked s ls v us w n ≡ linked s ls v vs w n
      links_read PNoLink env left ty h a v w n = refl
      links_read (PMoreLinks (PLink o at right) ls) env left ty h a v w n =
          let then_linked : PlainTy → Result PlainTy RuleFault = λ both. t.linked tables env both ls in
          let p : (y : PlainTy) × (type_of tables env (right_wanted o left) right ≡ Ok y) × (with_found (t.combined o at left y) then_linked ≡ Ok ty) = found_ok (type_of tables env (right_wanted o left) right) (λ y. with_found (t.combined o at left y) then_linked) ty h in
          let r : (both : PlainTy) × (t.combined o at left p.0 ≡ Ok both) × (then_linked both ≡ Ok ty) = found_ok (t.combined o at left p.0) then_linked ty p.2 in
          then_same (eval s right us w n) (eval s right vs w n) _ _ (eval_reads right env (right_wanted o left) p.0 p.1 a w n) (λ x w n.
          then_same (told (combined o v x) w n) (told (combined o v x) w n) _ _ refl (λ both w n. links_read ls env r.0 ty r.2 a both w n))

      conditions_read : (truth : Bool) (xs : PlainExprs) (env : PlainEnv) (ty : PlainTy) → conditions tables env truth xs ≡ Ok ty → Agree (sure env.locals) us vs
          → (w : W) (n : ℕ) → each_is s truth xs us w n ≡ each_is s truth xs vs w n
      conditions_read truth PNoExpr env ty h a w n = refl
      conditions_read truth (PExpr x xs) env ty h a w n =
          let p : (c : PlainTy) × (as_condition (place_of x) (type_of tables env None x) ≡ Ok c) × (conditions tables (where_test truth x env) truth xs ≡ Ok ty) = found_ok (as_condition (place_of x) (type_of tables env None x)) (λ c. conditions tables (where_test truth x env) truth xs) ty h in
          let r : (type_of tables env None x ≡ Ok TBool) × (p.0 ≡ TBool) = condition_ok (place_of x) (type_of tables env None x) p.0 p.1 in
          then_same (eval s x us w n) (eval s x vs w n) _ _ (eval_reads x env None TBool r.0 a w n) (λ v w n.
          if_same (same_truth (is_true v) truth) (each_is s truth xs us w n) (Got (value.Bool (not truth)) w n) (each_is s truth xs vs w n) (Got (value.Bool (not truth)) w n)
          (conditions_read truth xs (where_test truth x env) ty p.2 (agree_narrowed (shown truth x) env.locals us vs a) w n) refl)
