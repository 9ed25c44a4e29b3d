-- Each kind of expression, of parts that have their types.
use Rattle.std.proofs.Common.{◌≡◌, ℕ, Bool, true, false, not, Option, Some, None, Ok, List, [], ◌∷◌, ◌++◌, length, if◌then◌else◌, refl, sym, ap, ◌∙◌, true≢false}
use Rattle.std.specs.Prelude.{◌==◌, is_none, find, position, slice_get, option_and_then, unwrap_or}
use Rattle.std.specs.List.{position_from}
use Rattle.std.specs.declared.result.Result.{Result}
use Rattle.std.proofs.lemmas.Bool.{eqb-true, eq-eqb, or_from, or_parts}
use Rattle.std.proofs.lemmas.Option.{none-some}
use Rattle.py_tree.specs.declared.names.Place.{Place}
use Rattle.py_tree.specs.declared.rule.RuleFault.{RuleFault}
use Rattle.py_tree.specs.declared.rule.Rule.TheVariants.{NoneUse, Operand, Mismatch, UnknownMethod, ArgCount}
use Rattle.py_tree.specs.declared.expr.BinOp.{BinOp}
use Rattle.py_tree.specs.declared.expr.Cmp.{Cmp}
use Rattle.py_tree.specs.declared.expr.Cmp.TheVariants as cmp
use Rattle.py_tree.specs.PlainTypes.{PlainTy, TInt, TBool, TList, TEntity}
use Rattle.py_tree.specs.ClassRules.{PlainTable, PlainSig, PlainSigParam}
use Rattle.py_tree.specs.FlowEnvironment.{PlainLocal, has_name, has_none, shown, narrowed, where_test, says_not_none, variable_in}
use Rattle.py_tree.specs.PlainExpressions.{PlainExpr, PCall, PIndex, PNeg, PPos, PNot, PChain, PAnd, POr, PCompare, PIsNone, PlainExprs, PExpr, PlainLink, PLink, PlainLinks, PNoLink, PMoreLinks, links_of}
use Rattle.py_tree.specs.ExpressionTypes.{Function, Length, Text, Absolute, Least, Greatest, is_int, is_bool, is_str_or_list, operand, as_condition, place_of, count_of, refuse_if, needs, with_found, compared, comparison, combined, right_wanted, class_of_ty, element_of, table_named, method_of, method_in, applied, join, type_of, conditions, arguments, linked}
use Rattle.py_tree.specs.Flow.{Context, env_of, type_at}
use Rattle.call_graph.specs.SuspendingCode.{Leaving, expr_suspends, links_suspend}
use Rattle.program_meaning.proofs.TypedParts.{done, same_ok, found_ok, refuse_ok, passes_ok, condition_ok, combined_ok, type_given}
use Rattle.program_meaning.proofs.Places.{found_at, found_passes, position_is}
use Rattle.hoisting.specs.Stages.{class_place, method_place, methods_in}
use Rattle.hoisting.specs.HoistExpressions.{by_params, chain}
use Rattle.typed_hoisting.specs.TypedHoisting.{Typed}
use Rattle.typed_hoisting.proofs.TypedLists.{TypedEach, SuitParams, to_arguments, as_many, params_as_many}

-- Where a callee stands

position_found : {A : Type 0} (p : A → Bool) (xs : List A) (a : A) → find p xs ≡ Some a → slice_get xs (unwrap_or (position_from p 0 xs) 0) ≡ Some a
position_found p xs a h =
    let at : (k : ℕ) × (position p xs ≡ Some k) × (slice_get xs k ≡ Some a) = found_at p xs a h in
    ap (λ o. slice_get xs (unwrap_or o 0)) (sym (position_is p xs) ∙ at.1) ∙ at.2

pub record CalleeStands (c : Context) (class name : ℕ) (sig : PlainSig) : Type 0 where
  pub table : PlainTable
  pub has_table : slice_get c.tables (class_place c class) ≡ Some table
  pub has_method : slice_get table.methods (method_place c class name) ≡ Some sig
  pub named : table.name ≡ class
  pub signed : sig.name ≡ name

table_stands : (c : Context) (class : ℕ) (t : PlainTable) → table_named c.tables class ≡ Some t → slice_get c.tables (class_place c class) ≡ Some t
unfolding table_named
table_stands c class t h = position_found (λ (t : PlainTable). t.name == class) c.tables t h

table_is_named : (c : Context) (class : ℕ) (t : PlainTable) → table_named c.tables class ≡ Some t → t.name ≡ class
unfolding table_named
table_is_named c class t h = eqb-true t.name class (found_passes (λ (t : PlainTable). t.name == class) c.tables t h)

pub created_stands : (c : Context) (name : ℕ) (t : PlainTable) → table_named c.tables name ≡ Some t → (slice_get c.tables (class_place c name) ≡ Some t) × (t.name ≡ name)
created_stands c name t h = (table_stands c name t h, table_is_named c name t h)

pub callee_stands : (c : Context) (class name : ℕ) (sig : PlainSig) → method_of c.tables class name ≡ Some sig → CalleeStands c class name sig
unfolding method_of
callee_stands c class name sig h = by (table_named c.tables class) refl h
  where
    by : (o : Option PlainTable) → table_named c.tables class ≡ o → option_and_then (λ t. method_in t.methods name) o ≡ Some sig → CalleeStands c class name sig
    by None e h = absurd (none-some sig h)
    by (Some t) e h = record {
      table = t;
      has_table = table_stands c class t e;
      has_method = ap (λ o. slice_get t.methods (unwrap_or (position_from (λ (m : PlainSig). m.name == name) 0 (methods_in o)) 0)) e ∙ position_found (λ (m : PlainSig). m.name == name) t.methods sig h;
      named = table_is_named c class t e;
      signed = eqb-true sig.name name (found_passes (λ (m : PlainSig). m.name == name) t.methods sig h);
    }

-- What is shown

pub shows_nothing : (e r : PlainExpr) → ((truth : Bool) → shown truth e ≡ []) → (truth : Bool) (x : ℕ) → has_name (shown truth e) x ≡ true → has_name (shown truth r) x ≡ true
unfolding has_name
shows_nothing e r none truth x h = absurd (true≢false (sym h ∙ ap (λ names. has_name names x) (none truth)))

pub none_shows : (at : Place) (a r : PlainExpr) (positive : Bool) → ((x : ℕ) → has_name (variable_in a) x ≡ true → has_name (variable_in r) x ≡ true) → (truth : Bool) (x : ℕ) → has_name (shown truth (PIsNone at a positive)) x ≡ true → has_name (shown truth (PIsNone at r positive)) x ≡ true
unfolding shown has_name
none_shows at a r positive f truth x h = by (says_not_none truth positive) h
  where
    by : (b : Bool) → has_name (if b then variable_in a else []) x ≡ true → has_name (if b then variable_in r else []) x ≡ true
    by true h = f x h
    by false h = h

module _ (c : Context) (leaves : Leaving) where
  abbrev T : Option PlainTy → PlainTy → List PlainLocal → PlainExpr → Type 0
  T wanted ty locals e = Typed c leaves wanted ty locals e

  -- Numbers

  pub neg_typed : (there : List PlainLocal) (wanted : Option PlainTy) (at : Place) (r : PlainExpr) (ty : PlainTy) → ty ≡ TInt → T None TInt there r → T wanted ty there (PNeg at r)
  unfolding type_of expr_suspends
  neg_typed there wanted at r ty e h = (ap (λ r2. with_found r2 (λ t. operand t is_int (place_of r) (Ok TInt))) h.0 ∙ ap Ok (sym e), h.1)

  pub pos_typed : (there : List PlainLocal) (wanted : Option PlainTy) (at : Place) (r : PlainExpr) (ty : PlainTy) → ty ≡ TInt → T None TInt there r → T wanted ty there (PPos at r)
  unfolding type_of expr_suspends
  pos_typed there wanted at r ty e h = (ap (λ r2. with_found r2 (λ t. operand t is_int (place_of r) (Ok TInt))) h.0 ∙ ap Ok (sym e), h.1)

  -- Truth values

  pub not_parts : (locals : List PlainLocal) (wanted : Option PlainTy) (at : Place) (a : PlainExpr) (ty : PlainTy) → type_at c locals wanted (PNot at a) ≡ Ok ty → (type_at c locals None a ≡ Ok TBool) × (ty ≡ TBool)
  unfolding type_of
  not_parts locals wanted at a ty h = condition_ok (place_of a) (type_at c locals None a) ty h

  pub not_typed : (there : List PlainLocal) (wanted : Option PlainTy) (at : Place) (r : PlainExpr) (ty : PlainTy) → ty ≡ TBool → T None TBool there r → T wanted ty there (PNot at r)
  unfolding type_of expr_suspends as_condition
  not_typed there wanted at r ty e h = (ap (λ r2. with_found r2 (λ t. operand t is_bool (place_of r) (Ok TBool))) h.0 ∙ ap Ok (sym e), h.1)

  pub none_typed : (there : List PlainLocal) (wanted : Option PlainTy) (at : Place) (r : PlainExpr) (positive : Bool) (t ty : PlainTy) → ty ≡ TBool → T None t there r → T wanted ty there (PIsNone at r positive)
  unfolding type_of expr_suspends
  none_typed there wanted at r positive t ty e h = (ap (λ r2. with_found r2 (λ (t : PlainTy). done TBool)) h.0 ∙ ap Ok (sym e), h.1)

  pub condition_parts : (truth : Bool) (locals : List PlainLocal) (x : PlainExpr) (xs : PlainExprs) → conditions c.tables (env_of c locals) truth (PExpr x xs) ≡ Ok TBool
      → (type_at c locals None x ≡ Ok TBool) × (conditions c.tables (env_of c (narrowed (shown truth x) locals)) truth xs ≡ Ok TBool)
  unfolding type_of where_test
  condition_parts truth locals x xs h =
      let rest : Result PlainTy RuleFault = conditions c.tables (env_of c (narrowed (shown truth x) locals)) truth xs in
      let a : (t : PlainTy) × (as_condition (place_of x) (type_at c locals None x) ≡ Ok t) × (rest ≡ Ok TBool) = found_ok (as_condition (place_of x) (type_at c locals None x)) (λ t. rest) TBool h in
      ((condition_ok (place_of x) (type_at c locals None x) a.0 a.1).0, a.2)

  pub and_parts : (locals : List PlainLocal) (wanted : Option PlainTy) (at : Place) (items : PlainExprs) (ty : PlainTy) → type_at c locals wanted (PAnd at items) ≡ Ok ty → conditions c.tables (env_of c locals) true items ≡ Ok ty
  unfolding type_of
  and_parts locals wanted at items ty h = h

  pub or_parts_of : (locals : List PlainLocal) (wanted : Option PlainTy) (at : Place) (items : PlainExprs) (ty : PlainTy) → type_at c locals wanted (POr at items) ≡ Ok ty → conditions c.tables (env_of c locals) false items ≡ Ok ty
  unfolding type_of
  or_parts_of locals wanted at items ty h = h

  -- Comparisons

  compared_anywhere : (p q : Place) (s t u : PlainTy) → compared p s t ≡ Ok u → compared q s t ≡ Ok u
  unfolding compared
  compared_anywhere p q s t u h = let r : (is_none (join s t) ≡ false) × (done TBool ≡ Ok u) = refuse_ok (is_none (join s t)) Mismatch p (Ok TBool) u h in ap (λ b. refuse_if b Mismatch q (Ok TBool)) r.0 ∙ r.1

  comparison_anywhere : (o : Cmp) (op_at p q : Place) (s t u : PlainTy) → comparison o op_at p s t ≡ Ok u → comparison o op_at q s t ≡ Ok u
  unfolding comparison
  comparison_anywhere cmp.Eq op_at p q s t u h = compared_anywhere p q s t u h
  comparison_anywhere cmp.Ne op_at p q s t u h = compared_anywhere p q s t u h
  comparison_anywhere _ op_at p q s t u h = h

  pub compare_parts : (locals : List PlainLocal) (wanted : Option PlainTy) (at : Place) (o : Cmp) (op_at : Place) (left right : PlainExpr) (ty : PlainTy) → type_at c locals wanted (PCompare at o op_at left right) ≡ Ok ty
      → (s : PlainTy) × (t : PlainTy) × (type_at c locals None left ≡ Ok s) × (type_at c locals None right ≡ Ok t) × (comparison o op_at (place_of right) s t ≡ Ok ty)
  unfolding type_of
  compare_parts locals wanted at o op_at left right ty h =
      let then_right : PlainTy → Result PlainTy RuleFault = λ s. with_found (type_at c locals None right) (λ t. comparison o op_at (place_of right) s t) in
      let a : (s : PlainTy) × (type_at c locals None left ≡ Ok s) × (then_right s ≡ Ok ty) = found_ok (type_at c locals None left) then_right ty h in
      let b : (t : PlainTy) × (type_at c locals None right ≡ Ok t) × (comparison o op_at (place_of right) a.0 t ≡ Ok ty) = found_ok (type_at c locals None right) (λ t. comparison o op_at (place_of right) a.0 t) ty a.2 in
      (a.0, b.0, a.1, b.1, b.2)

  pub compare_typed : (there : List PlainLocal) (wanted : Option PlainTy) (at : Place) (o : Cmp) (op_at : Place) (right l r : PlainExpr) (s t ty : PlainTy) → comparison o op_at (place_of right) s t ≡ Ok ty → T None s there l → T None t there r → T wanted ty there (PCompare at o op_at l r)
  unfolding type_of expr_suspends
  compare_typed there wanted at o op_at right l r s t ty h x y = (
    ap (λ q. with_found q (λ s. with_found (type_at c there None r) (λ t. comparison o op_at (place_of r) s t))) x.0 ∙ ap (λ q. with_found q (λ t. comparison o op_at (place_of r) s t)) y.0 ∙ comparison_anywhere o op_at (place_of right) (place_of r) s t ty h,
    or_from _ _ x.1 y.1,
  )

  -- Elements at places

  pub index_typed : (there : List PlainLocal) (wanted : Option PlainTy) (at : Place) (on index : PlainExpr) (ty : PlainTy) → T None (TList ty) there on → T None TInt there index → T wanted ty there (PIndex at on index)
  unfolding type_of expr_suspends
  index_typed there wanted at on index ty x y = (
    ap (λ q. with_found q (λ t. refuse_if (has_none t) NoneUse (place_of on) (needs (element_of t) Operand (place_of on) (λ element. with_found (type_at c there None index) (λ i. refuse_if (not (is_int i)) Operand (place_of index) (Ok element)))))) x.0
        ∙ ap (λ q. with_found q (λ i. refuse_if (not (is_int i)) Operand (place_of index) (Ok ty))) y.0,
    or_from _ _ x.1 y.1,
  )

  -- Calls

  pub call_typed : (there : List PlainLocal) (wanted : Option PlainTy) (at : Place) (name : ℕ) (name_at : Place) (class : ℕ) (sig : PlainSig) (ts : List PlainTy) (on : PlainExpr) (args : PlainExprs) → method_of c.tables class name ≡ Some sig
      → type_at c there None on ≡ Ok (TEntity class) → TypedEach c (by_params sig.params) ts there args → SuitParams ts sig.params → type_at c there wanted (PCall at on name name_at args) ≡ Ok sig.result
  unfolding type_of
  call_typed there wanted at name name_at class sig ts on args found x each suit =
      let then_args : PlainSig → Result PlainTy RuleFault = λ m. refuse_if (not (count_of args == length m.params)) ArgCount name_at (arguments c.tables (env_of c there) args m.params m.result) in
      ap (λ q. with_found q (λ t. refuse_if (has_none t) NoneUse (place_of on) (needs (class_of_ty t) Operand (place_of on) (λ class. needs (method_of c.tables class name) UnknownMethod name_at then_args)))) x
      ∙ ap (λ o. needs o UnknownMethod name_at then_args) found
      ∙ ap (λ b. refuse_if (not b) ArgCount name_at (arguments c.tables (env_of c there) args sig.params sig.result)) (eq-eqb (count_of args) (length sig.params) (as_many c (by_params sig.params) ts there args each ∙ params_as_many c ts sig.params suit))
      ∙ to_arguments c there ts args sig.params sig.result each suit

  -- a function again, of as many operands that pass the same test
  pub record FunctionTakes (f : Function) (class : Option PlainTable) (at : Place) (count : ℕ) (each : (PlainTy → Bool) → PlainTy → Result PlainTy RuleFault) (ty : PlainTy) : Type 1 where
    pub test : PlainTy → Bool
    pub passes : each test (type_given f) ≡ Ok ty
    pub again : (each2 : (PlainTy → Bool) → PlainTy → Result PlainTy RuleFault) (fit2 : List PlainSigParam → PlainTy → Result PlainTy RuleFault) → each2 test (type_given f) ≡ Ok (type_given f) → applied (Some f) class at count each2 fit2 ≡ Ok (type_given f)

  pub function_takes : (f : Function) (class : Option PlainTable) (at : Place) (count : ℕ) (each : (PlainTy → Bool) → PlainTy → Result PlainTy RuleFault) (fit : List PlainSigParam → PlainTy → Result PlainTy RuleFault) (ty : PlainTy)
      → applied (Some f) class at count each fit ≡ Ok ty → FunctionTakes f class at count each ty
  unfolding applied
  function_takes Length class at count each fit ty h =
      let p : ((count == 1) ≡ true) × (each is_str_or_list TInt ≡ Ok ty) = passes_ok (count == 1) ArgCount at (each is_str_or_list TInt) ty h in
      record { test = is_str_or_list; passes = p.1; again = λ each2 fit2 e. ap (λ b. refuse_if (not b) ArgCount at (each2 is_str_or_list TInt)) p.0 ∙ e }
  function_takes Text class at count each fit ty h =
      let p : ((count == 1) ≡ true) × (each is_int _ ≡ Ok ty) = passes_ok (count == 1) ArgCount at (each is_int _) ty h in
      record { test = is_int; passes = p.1; again = λ each2 fit2 e. ap (λ b. refuse_if (not b) ArgCount at (each2 is_int (type_given Text))) p.0 ∙ e }
  function_takes Absolute class at count each fit ty h =
      let p : ((count == 1) ≡ true) × (each is_int TInt ≡ Ok ty) = passes_ok (count == 1) ArgCount at (each is_int TInt) ty h in
      record { test = is_int; passes = p.1; again = λ each2 fit2 e. ap (λ b. refuse_if (not b) ArgCount at (each2 is_int TInt)) p.0 ∙ e }
  function_takes Least class at count each fit ty h =
      let p : ((count == 2) ≡ true) × (each is_int TInt ≡ Ok ty) = passes_ok (count == 2) ArgCount at (each is_int TInt) ty h in
      record { test = is_int; passes = p.1; again = λ each2 fit2 e. ap (λ b. refuse_if (not b) ArgCount at (each2 is_int TInt)) p.0 ∙ e }
  function_takes Greatest class at count each fit ty h =
      let p : ((count == 2) ≡ true) × (each is_int TInt ≡ Ok ty) = passes_ok (count == 2) ArgCount at (each is_int TInt) ty h in
      record { test = is_int; passes = p.1; again = λ each2 fit2 e. ap (λ b. refuse_if (not b) ArgCount at (each2 is_int TInt)) p.0 ∙ e }

  -- Runs of operators

  abbrev pub LinksTyped : PlainTy → List PlainLocal → List PlainLink → Type 0
  LinksTyped t locals links = (linked c.tables (env_of c locals) t (links_of links) ≡ Ok t) × (links_suspend leaves (links_of links) ≡ false)

  -- a run of operands, and all of it, has this type
  abbrev pub RunTyped : PlainTy → List PlainLocal → PlainExpr × List PlainLink → Type 0
  RunTyped t locals run = T None t locals run.0 × LinksTyped t locals run.1

  pub no_link_typed : (t : PlainTy) (locals : List PlainLocal) → LinksTyped t locals []
  unfolding type_of expr_suspends
  no_link_typed t locals = (refl, refl)

  pub one_link_typed : (t u : PlainTy) (locals : List PlainLocal) (o : BinOp) (at : Place) (right : PlainExpr) → combined o at t u ≡ Ok t → T (right_wanted o t) u locals right → LinksTyped t locals (PLink o at right ∷ [])
  unfolding type_of expr_suspends
  one_link_typed t u locals o at right e h =
      (ap (λ q. with_found q (λ u. with_found (combined o at t u) (λ both. done both))) h.0 ∙ ap (λ q. with_found q (λ both. done both)) e, or_from _ _ h.1 refl)

  pub more_links_typed : (t : PlainTy) (locals : List PlainLocal) (ls : List PlainLink) (l : PlainLink) → LinksTyped t locals ls → LinksTyped t locals (l ∷ []) → LinksTyped t locals (ls ++ l ∷ [])
  unfolding type_of expr_suspends
  more_links_typed t locals [] l h one = one
  more_links_typed t locals (PLink o at right ∷ ls) l h one =
      let then_both : PlainTy → Result PlainTy RuleFault = λ both. linked c.tables (env_of c locals) both (links_of ls) in
      let a : (u : PlainTy) × (type_at c locals (right_wanted o t) right ≡ Ok u) × (with_found (combined o at t u) then_both ≡ Ok t) = found_ok (type_at c locals (right_wanted o t) right) (λ u. with_found (combined o at t u) then_both) t h.0 in
      let b : (both : PlainTy) × (combined o at t a.0 ≡ Ok both) × (then_both both ≡ Ok t) = found_ok (combined o at t a.0) then_both t a.2 in
      let same : t ≡ b.0 = (combined_ok o at t a.0 b.0 b.1).0 in
      let s : (expr_suspends leaves right ≡ false) × (links_suspend leaves (links_of ls) ≡ false) = or_parts (expr_suspends leaves right) _ h.1 in
      let rest : LinksTyped t locals (ls ++ l ∷ []) = more_links_typed t locals ls l (ap (λ v. linked c.tables (env_of c locals) v (links_of ls)) same ∙ b.2, s.1) one in
      let all : PlainTy → Result PlainTy RuleFault = λ both. linked c.tables (env_of c locals) both (links_of (ls ++ l ∷ [])) in
      (ap (λ q. with_found q (λ u. with_found (combined o at t u) all)) a.1 ∙ ap (λ q. with_found q all) (b.1 ∙ ap Ok (sym same)) ∙ rest.0, or_from _ _ s.0 rest.1)

  pub run_typed : (t : PlainTy) (there : List PlainLocal) (wanted : Option PlainTy) (at : Place) (left : PlainExpr) (ls : List PlainLink) → RunTyped t there (left, ls) → type_at c there None (chain at left ls) ≡ Ok t
  unfolding type_of
  run_typed t there wanted at left [] h = h.0.0
  run_typed t there wanted at left (l ∷ ls) h = ap (λ q. with_found q (λ t. linked c.tables (env_of c there) t (links_of (l ∷ ls)))) h.0.0 ∙ h.1.0

  pub run_stays : (t : PlainTy) (there : List PlainLocal) (at : Place) (left : PlainExpr) (ls : List PlainLink) → RunTyped t there (left, ls) → expr_suspends leaves (chain at left ls) ≡ false
  unfolding expr_suspends
  run_stays t there at left [] h = h.0.1
  run_stays t there at left (l ∷ ls) h = or_from _ _ h.0.1 h.1.1

  pub link_parts : (t ty : PlainTy) (locals : List PlainLocal) (o : BinOp) (at : Place) (right : PlainExpr) (more : PlainLinks) → linked c.tables (env_of c locals) t (PMoreLinks (PLink o at right) more) ≡ Ok ty
      → (u : PlainTy) × (type_at c locals (right_wanted o t) right ≡ Ok u) × (combined o at t u ≡ Ok t) × (linked c.tables (env_of c locals) t more ≡ Ok ty)
  unfolding type_of
  link_parts t ty locals o at right more h =
      let then_both : PlainTy → Result PlainTy RuleFault = λ both. linked c.tables (env_of c locals) both more in
      let a : (u : PlainTy) × (type_at c locals (right_wanted o t) right ≡ Ok u) × (with_found (combined o at t u) then_both ≡ Ok ty) = found_ok (type_at c locals (right_wanted o t) right) (λ u. with_found (combined o at t u) then_both) ty h in
      let b : (both : PlainTy) × (combined o at t a.0 ≡ Ok both) × (then_both both ≡ Ok ty) = found_ok (combined o at t a.0) then_both ty a.2 in
      let same : t ≡ b.0 = (combined_ok o at t a.0 b.0 b.1).0 in
      (a.0, a.1, b.1 ∙ ap Ok (sym same), ap then_both same ∙ b.2)

  -- no link is left
  pub last_link : (t ty : PlainTy) (locals : List PlainLocal) → linked c.tables (env_of c locals) t PNoLink ≡ Ok ty → t ≡ ty
  unfolding type_of
  last_link t ty locals h = same_ok t ty h

  -- a run without links
  pub chain_alone : (locals : List PlainLocal) (wanted : Option PlainTy) (at : Place) (first : PlainExpr) (ty : PlainTy) → type_at c locals wanted (PChain at first PNoLink) ≡ Ok ty → type_at c locals None first ≡ Ok ty
  unfolding type_of
  chain_alone locals wanted at first ty h =
      let p : (t : PlainTy) × (type_at c locals None first ≡ Ok t) × (linked c.tables (env_of c locals) t PNoLink ≡ Ok ty) = found_ok (type_at c locals None first) (λ t. linked c.tables (env_of c locals) t PNoLink) ty h in
      p.1 ∙ ap Ok (last_link p.0 ty locals p.2)

  pub alone_typed : (there : List PlainLocal) (wanted : Option PlainTy) (at : Place) (r : PlainExpr) (ty : PlainTy) → T None ty there r → T wanted ty there (PChain at r PNoLink)
  unfolding type_of expr_suspends
  alone_typed there wanted at r ty h = (ap (λ q. with_found q (λ t. linked c.tables (env_of c there) t PNoLink)) h.0, or_from _ _ h.1 refl)
