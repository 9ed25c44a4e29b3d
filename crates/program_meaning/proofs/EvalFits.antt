-- An expression that has a type gives what fits it.
use Rattle.std.proofs.Common.{◌≡◌, ℕ, pos, arith, Bool, true, false, cond, not, Option, Some, None, Ok, List, [], ◌∷◌, ◌++◌, length, append_assoc, append-nil, refl, sym, ap, ◌∙◌, subst, true≢false}
use Rattle.std.specs.Prelude.{slice_get, option_and_then, ◌==◌, ◌||◌, ◌-ℤ◌}
use Rattle.std.specs.declared.result.Result.{Result}
use Rattle.std.proofs.lemmas.Option.{same_Some}
use Rattle.std.proofs.lemmas.Bool.{eqb-true}
use Rattle.py_tree.specs.declared.names.Place.{Place}
use Rattle.py_tree.specs.declared.rule.Rule.TheVariants.{Mismatch}
use Rattle.py_tree.specs.declared.rule.RuleFault.{RuleFault}
use Rattle.py_tree.specs.declared.expr.BinOp.{BinOp}
use Rattle.py_tree.specs.PlainTypes.{PlainTy, TInt, TBool, TStr, TNil, TList, TEntity}
use Rattle.py_tree.specs.PlainExpressions.{PlainExpr, PInt, PBool, PStr, PNil, PVar, PSelf, PAttr, PCall, PApply, PIndex, PList, PNeg, PPos, PNot, PChain, PAnd, POr, PCompare, PIsNone, PCond, PlainExprs, PNoExpr, PExpr, PLink, PlainLinks, PNoLink, PMoreLinks}
use Rattle.py_tree.specs.PlainProgram.{PlainProgram}
use Rattle.py_tree.specs.ClassRules.{PlainSigParam, PlainSig, PlainTable, is_self, is_class, acts, any_acts, any_link_acts}
use Rattle.py_tree.specs.FlowEnvironment.{PlainLocal, PlainEnv, where_test, narrowed, shown}
use Rattle.py_tree.specs.ExpressionTypes as t
use Rattle.py_tree.specs.ExpressionTypes.{join, table_named, field_of, name_in, self_ty, Function, function_of, with_found, place_of, count_of, fits, operand, as_condition, element_wanted, assignable, type_of_empty, right_wanted, type_of, conditions, arguments, list_of, elements, read_ty}
use Rattle.sf_value.specs.declared.value.Ref.{Ref}
use Rattle.sf_value.specs.declared.value.Value.{Value}
use Rattle.sf_value.specs.declared.value.Value.TheVariants as value
use Rattle.program_meaning.specs.declared.vars.Var.{Var}
use Rattle.program_meaning.specs.ClassTables.{Source}
use Rattle.program_meaning.specs.World.{Gives, Got, Fell, ◌>>=◌, told, local_value}
use Rattle.program_meaning.specs.Operations.{in_range, int_of, is_true, items_of, element, combined, given_by}
use Rattle.program_meaning.specs.Evaluation.{Site, same_truth, entity, key_in, method_of, class_of, literal, own_field, applied, eval, eval_all, linked, each_is}
use Rattle.program_meaning.specs.Fits.{HasTable, Fits, int, bool, str, nil, list, entity as entity_fits, AllFit, empty, more, EachFits, no_value, one_more, param_types, CallFits, ResultFits}
use Rattle.program_meaning.specs.PointFits.{VarsFit, GivesFit, got, fell, MadeFits, CallsFit}
use Rattle.program_meaning.proofs.FitsLaws.{as_list, as_entity, fits_same, fits_wider, fits_joined, fit_behind}
use Rattle.program_meaning.proofs.ShownLaws as shown'
use Rattle.program_meaning.proofs.ShownLaws.{NotNone, Only, shows, same_is_equal}
use Rattle.program_meaning.proofs.LocalsFit.{narrowed_fits, name_fits}
use Rattle.program_meaning.proofs.TypedParts.{done, same_ok, found_ok, passes_ok, operand_ok, either_false, condition_ok, combined_ok, Joins, empty_ok, typed_index, typed_call, typed_attr, typed_number, typed_compare, typed_none_test, typed_chain, typed_cond, typed_apply, arguments_result, each_result, elements_result, conditions_result, typed_function, typed_creation, type_given}
use Rattle.program_meaning.proofs.ValuesFit.{ToldFits, told_fits, range_fits, weighed_fits, items_are, index_fits, combined_fits, given_fits}

-- Where an expression stands

-- anywhere, or in `__init__` behind the declarations of these fields, where it does no more than to compute with them
pub data Stand : Type 0 where
  Anywhere : Stand
  Behind : (program : PlainProgram) → (fields : List ℕ) → Stand

abbrev pub refuses : Stand → PlainExpr → Bool
refuses Anywhere e = false
refuses (Behind program fields) e = acts program fields e

abbrev pub refuses_any : Stand → PlainExprs → Bool
refuses_any Anywhere xs = false
refuses_any (Behind program fields) xs = any_acts program fields xs

abbrev pub refuses_links : Stand → PlainLinks → Bool
refuses_links Anywhere ls = false
refuses_links (Behind program fields) ls = any_link_acts program fields ls

module _ (at : Place) where
  part_call : (d : Stand) (on : PlainExpr) (x : ℕ) (x_at : Place) (args : PlainExprs) → refuses d (PCall at on x x_at args) ≡ false → (refuses d on ≡ false) × (refuses_any d args ≡ false)
  unfolding acts
  part_call Anywhere on x x_at args h = (refl, refl)
  part_call (Behind program fields) on x x_at args h = absurd (true≢false h)

  part_apply : (d : Stand) (x : ℕ) (args : PlainExprs) → refuses d (PApply at x args) ≡ false → refuses_any d args ≡ false
  unfolding acts
  part_apply Anywhere x args h = refl
  part_apply (Behind program fields) x args h = (either_false (is_class program x) (any_acts program fields args) h).1

  part_index : (d : Stand) (on index : PlainExpr) → refuses d (PIndex at on index) ≡ false → (refuses d on ≡ false) × (refuses d index ≡ false)
  unfolding acts
  part_index Anywhere on index h = (refl, refl)
  part_index (Behind program fields) on index h = either_false (acts program fields on) (acts program fields index) h

  part_list : (d : Stand) (xs : PlainExprs) → refuses d (PList at xs) ≡ false → refuses_any d xs ≡ false
  unfolding acts
  part_list Anywhere xs h = refl
  part_list (Behind program fields) xs h = h

  part_neg : (d : Stand) (a : PlainExpr) → refuses d (PNeg at a) ≡ false → refuses d a ≡ false
  unfolding acts
  part_neg Anywhere a h = refl
  part_neg (Behind program fields) a h = h

  part_pos : (d : Stand) (a : PlainExpr) → refuses d (PPos at a) ≡ false → refuses d a ≡ false
  unfolding acts
  part_pos Anywhere a h = refl
  part_pos (Behind program fields) a h = h

  part_not : (d : Stand) (a : PlainExpr) → refuses d (PNot at a) ≡ false → refuses d a ≡ false
  unfolding acts
  part_not Anywhere a h = refl
  part_not (Behind program fields) a h = h

  part_chain : (d : Stand) (first : PlainExpr) (links : PlainLinks) → refuses d (PChain at first links) ≡ false → (refuses d first ≡ false) × (refuses_links d links ≡ false)
  unfolding acts
  part_chain Anywhere first links h = (refl, refl)
  part_chain (Behind program fields) first links h = either_false (acts program fields first) (any_link_acts program fields links) h

  part_and : (d : Stand) (xs : PlainExprs) → refuses d (PAnd at xs) ≡ false → refuses_any d xs ≡ false
  unfolding acts
  part_and Anywhere xs h = refl
  part_and (Behind program fields) xs h = h

  part_or : (d : Stand) (xs : PlainExprs) → refuses d (POr at xs) ≡ false → refuses_any d xs ≡ false
  unfolding acts
  part_or Anywhere xs h = refl
  part_or (Behind program fields) xs h = h

  part_compare : (d : Stand) (o : _) (op_at : Place) (left right : PlainExpr) → refuses d (PCompare at o op_at left right) ≡ false → (refuses d left ≡ false) × (refuses d right ≡ false)
  unfolding acts
  part_compare Anywhere o op_at left right h = (refl, refl)
  part_compare (Behind program fields) o op_at left right h = either_false (acts program fields left) (acts program fields right) h

  part_none_test : (d : Stand) (a : PlainExpr) (positive : Bool) → refuses d (PIsNone at a positive) ≡ false → refuses d a ≡ false
  unfolding acts
  part_none_test Anywhere a positive h = refl
  part_none_test (Behind program fields) a positive h = h

  part_cond : (d : Stand) (test a b : PlainExpr) → refuses d (PCond at test a b) ≡ false → (refuses d test ≡ false) × (refuses d a ≡ false) × (refuses d b ≡ false)
  unfolding acts
  part_cond Anywhere test a b h = (refl, refl, refl)
  part_cond (Behind program fields) test a b h =
      let p : ((acts program fields test || acts program fields a) ≡ false) × (acts program fields b ≡ false) = either_false (acts program fields test || acts program fields a) (acts program fields b) h in
      let q : (acts program fields test ≡ false) × (acts program fields a ≡ false) = either_false (acts program fields test) (acts program fields a) p.0 in
      (q.0, q.1, p.1)

  part_link : (d : Stand) (o : BinOp) (right : PlainExpr) (links : PlainLinks) → refuses_links d (PMoreLinks (PLink o at right) links) ≡ false → (refuses d right ≡ false) × (refuses_links d links ≡ false)
  unfolding acts
  part_link Anywhere o right links h = (refl, refl)
  part_link (Behind program fields) o right links h = either_false (acts program fields right) (any_link_acts program fields links) h

part_more : (d : Stand) (x : PlainExpr) (xs : PlainExprs) → refuses_any d (PExpr x xs) ≡ false → (refuses d x ≡ false) × (refuses_any d xs ≡ false)
unfolding acts
part_more Anywhere x xs h = (refl, refl)
part_more (Behind program fields) x xs h = either_false (acts program fields x) (any_acts program fields xs) h

-- What is given

module _ {W : Type 0} (WorldFits : W → Type 0) where
  pub fit_then : {A B : Type 0} (P : A → Type 0) (Q : B → Type 0) (g : Gives W A) (k : A → W → ℕ → Gives W B) → GivesFit WorldFits P g
      → ((x : A) (w : W) (n : ℕ) → P x → WorldFits w → GivesFit WorldFits Q (k x w n)) → GivesFit WorldFits Q (g >>= k)
  fit_then P Q (Got x w n) k (got p q) h = h x w n p q
  fit_then P Q (Fell f w n) k (fell p q) h = fell p q

  pub fit_more : {A : Type 0} (P Q : A → Type 0) (g : Gives W A) → GivesFit WorldFits P g → ((x : A) → P x → Q x) → GivesFit WorldFits Q g
  fit_more P Q (Got x w n) (got p q) h = got (h x p) q
  fit_more P Q (Fell f w n) (fell p q) h = fell p q

  pub fit_both : {A : Type 0} (P Q : A → Type 0) (g : Gives W A) → GivesFit WorldFits P g → Only Q g → GivesFit WorldFits (λ x. P x × Q x) g
  fit_both P Q (Got x w n) (got p q) (shown'.got r) = got (p, r) q
  fit_both P Q (Fell f w n) (fell p q) only = fell p q

-- the numbers of methods and classes are those of their names
pub record Matches (src : Source) (tables : List PlainTable) : Type 0 where
  pub methods : (class : ℕ) (table : PlainTable) (x : ℕ) (m : PlainSig) → HasTable tables class table → t.method_of tables table.name x ≡ Some m → slice_get table.methods (method_of src class x) ≡ Some m
  pub classes : (x : ℕ) (table : PlainTable) → table_named tables x ≡ Some table → HasTable tables (class_of src x) table

pub result_is : (tables : List PlainTable) (class method : ℕ) (table : PlainTable) (m : PlainSig) (v : Value) → HasTable tables class table → slice_get table.methods method ≡ Some m → ResultFits tables class method v → Fits tables m.result v
result_is tables class method table m v has e r =
    let same : r.table ≡ table = same_Some _ _ (sym r.has_table ∙ has) in
    let sig : r.sig ≡ m = same_Some _ _ (sym r.has_method ∙ ap (λ u. slice_get u.methods method) same ∙ e) in
    subst (λ u. Fits tables u.result v) sig r.fits

made_is : (tables : List PlainTable) (class : ℕ) (table : PlainTable) (v : Value) → HasTable tables class table → MadeFits tables class v → Fits tables (TEntity table.name) v
made_is tables class table v has r = subst (λ u. Fits tables (TEntity u.name) v) (same_Some _ _ (sym r.has_table ∙ has)) r.fits

-- values that stand behind others
abbrev Adds : List PlainTable → List PlainTy → List Value → List Value → Type 0
Adds tables types vs ws = (rest : List Value) × (ws ≡ vs ++ rest) × EachFits tables types rest

-- Evaluation

-- what there is around an expression
pub record Around (tables : List PlainTable) {W : Type 0} (s : Site W) (d : Stand) (WorldFits : W → Type 0) : Type 0 where
  pub matches : Matches s.src tables
  pub table : PlainTable
  pub has_table : HasTable tables s.me.0 table
  pub reads : (at : Place) (on : PlainExpr) (x : ℕ) (x_at : Place) (ty : PlainTy) (w : W) → is_self on ≡ true → refuses d (PAttr at on x x_at) ≡ false → field_of tables s.me.0 x ≡ Some ty → WorldFits w → Fits tables ty (own_field s x w)
  pub calls : CallsFit tables WorldFits s.calls

module _ (tables : List PlainTable) {W : Type 0} (s : Site W) (d : Stand) (WorldFits : W → Type 0) (method : Option ℕ) (around : Around tables s d WorldFits) where
  abbrev pub env_at : List PlainLocal → PlainEnv
  env_at locals = record { class = s.me.0; method = method; locals = locals }

  self_fits : (ty : PlainTy) → done (self_ty tables s.me.0) ≡ Ok ty → Fits tables ty (entity s.me)
  unfolding self_ty
  self_fits ty h = fits_same tables (TEntity around.table.name) ty (entity s.me) (sym (ap (λ o. TEntity (name_in o)) around.has_table) ∙ same_ok _ ty h) (entity_fits _ around.has_table)

  call_fits : (c x : ℕ) (m : PlainSig) (ty : PlainTy) (v : Value) (vs : List Value) (w : W) (n : ℕ) → t.method_of tables c x ≡ Some m → m.result ≡ ty → Fits tables (TEntity c) v → EachFits tables (param_types m.params) vs → WorldFits w
      → GivesFit WorldFits (Fits tables ty) (s.calls.call (key_in v) (method_of s.src (key_in v).0 x) vs w n)
  call_fits c x m ty v vs w n has_method result fit args p =
      let e : (at : Ref) × (table : PlainTable) × (v ≡ value.Entity at) × HasTable tables at.class table × (table.name ≡ c) = as_entity tables c v fit in
      let number : ℕ = method_of s.src e.0.class x in
      let is_there : slice_get e.1.methods number ≡ Some m = around.matches.methods e.0.class e.1 x m e.3 (ap (λ c. t.method_of tables c x) e.4 ∙ has_method) in
      let goes : CallFits tables e.0.class number vs = record { table = e.1; has_table = e.3; sig = m; has_method = is_there; fit = args } in
      subst (λ u. GivesFit WorldFits (Fits tables ty) (s.calls.call (key_in u) (method_of s.src (key_in u).0 x) vs w n)) (sym e.2)
      (fit_more WorldFits (ResultFits tables e.0.class number) (Fits tables ty) (s.calls.call (e.0.class, e.0.key) number vs w n) (around.calls.call (e.0.class, e.0.key) number vs w n goes p)
      (λ u r. fits_same tables m.result ty u result (result_is tables e.0.class number e.1 m u e.3 is_there r)))

  apply_fits : (o : Option Function) (x : ℕ) (at : Place) (args : PlainExprs) (locals : List PlainLocal) (ty : PlainTy) (vars : List Var) (w : W) (n : ℕ)
      → t.applied o (table_named tables x) at (count_of args) (λ test result. t.each_is test tables (env_at locals) args result) (λ params result. arguments tables (env_at locals) args params result) ≡ Ok ty
      → ((test : PlainTy → Bool) (result : PlainTy) → t.each_is test tables (env_at locals) args result ≡ Ok ty → GivesFit WorldFits (λ vs. Unit {0}) (eval_all s args [] vars w n))
      → ((params : List PlainSigParam) (result : PlainTy) → count_of args ≡ length params → arguments tables (env_at locals) args params result ≡ Ok ty → GivesFit WorldFits (Adds tables (param_types params) []) (eval_all s args [] vars w n))
      → GivesFit WorldFits (Fits tables ty) (eval_all s args [] vars w n >>= λ vs w n. applied s o x vs w n)
  apply_fits (Some f) x at args locals ty vars w n h any fit =
      let a : (test : PlainTy → Bool) × (t.each_is test tables (env_at locals) args (type_given f) ≡ Ok ty) = typed_function (table_named tables x) at (count_of args) (λ test result. t.each_is test tables (env_at locals) args result) (λ params result. arguments tables (env_at locals) args params result) ty f h in
      let same : type_given f ≡ ty = each_result tables a.0 (env_at locals) args (type_given f) ty a.1 in
      fit_then WorldFits (λ vs. Unit {0}) (Fits tables ty) (eval_all s args [] vars w n) (λ vs w n. told (given_by f vs) w n) (any a.0 (type_given f) a.1) (λ vs w n u p. told_fits tables WorldFits ty (given_by f vs) w n (subst (λ u. ToldFits tables u (given_by f vs)) same (given_fits tables f vs)) p)
  apply_fits None x at args locals ty vars w n h any fit =
      let a : (c : PlainTable) × (table_named tables x ≡ Some c) × ((count_of args == length c.init) ≡ true) × (arguments tables (env_at locals) args c.init (TEntity c.name) ≡ Ok ty) = typed_creation (table_named tables x) at (count_of args) (λ test result. t.each_is test tables (env_at locals) args result) (λ params result. arguments tables (env_at locals) args params result) ty h in
      let same : TEntity a.0.name ≡ ty = arguments_result tables (env_at locals) args a.0.init (TEntity a.0.name) ty a.3 in
      let has : HasTable tables (class_of s.src x) a.0 = around.matches.classes x a.0 a.1 in
      fit_then WorldFits (Adds tables (param_types a.0.init) []) (Fits tables ty) (eval_all s args [] vars w n) (λ vs w n. s.calls.make (class_of s.src x) vs w n) (fit a.0.init (TEntity a.0.name) (eqb-true (count_of args) (length a.0.init) a.2) a.3)
      (λ vs w n added p. fit_more WorldFits (MadeFits tables (class_of s.src x)) (Fits tables ty) (s.calls.make (class_of s.src x) vs w n)
      (around.calls.make (class_of s.src x) vs w n (record { table = a.0; has_table = has; fit = subst (λ us. EachFits tables (param_types a.0.init) us) (sym added.1) added.2 }) p)
      (λ u r. fits_same tables (TEntity a.0.name) ty u same (made_is tables (class_of s.src x) a.0 u has r)))

  -- a test, and what it shows where it comes out so
  abbrev pub Tests : List Var → PlainExpr → Value → Type 0
  Tests vars e v = Fits tables TBool v × ((truth : Bool) → is_true v ≡ truth → NotNone vars (shown truth e))

  -- the elements of a list: those that there are and those that come fit
  first_element : (element u : PlainTy) (v : Value) → assignable u element ≡ true → Fits tables u v → AllFit tables element ([] ++ v ∷ [])
  first_element element u v h fit = more (fits_wider tables u element v h fit) empty

  pub by_truth : (b : Bool) (P : Value → Type 0) (yes' no' : Gives W Value) → (b ≡ true → GivesFit WorldFits P yes') → (b ≡ false → GivesFit WorldFits P no') → GivesFit WorldFits P (cond b yes' no')
  by_truth true P yes' no' f g = f refl
  by_truth false P yes' no' f g = g refl

  only_both : (vars : List Var) (e : PlainExpr) (w : W) (n : ℕ) → Only (λ v. (truth : Bool) → is_true v ≡ truth → NotNone vars (shown truth e)) (eval s e vars w n)
  only_both vars e w n = by (eval s e vars w n) (shows s vars e true w n) (shows s vars e false w n)
    where
      by : (g : Gives W Value) → Only (λ v. is_true v ≡ true → NotNone vars (shown true e)) g → Only (λ v. is_true v ≡ false → NotNone vars (shown false e)) g → Only (λ v. (truth : Bool) → is_true v ≡ truth → NotNone vars (shown truth e)) g
      by (Got v w n) (shown'.got p) (shown'.got q) = shown'.got (λ truth. each truth p q)
        where
          each : (truth : Bool) → (is_true v ≡ true → NotNone vars (shown true e)) → (is_true v ≡ false → NotNone vars (shown false e)) → is_true v ≡ truth → NotNone vars (shown truth e)
          each true p q h = p h
          each false p q h = q h
      by (Fell f w n) p q = shown'.fell

  pub test_fits : (e : PlainExpr) (vars : List Var) (w : W) (n : ℕ) → GivesFit WorldFits (Fits tables TBool) (eval s e vars w n) → GivesFit WorldFits (Tests vars e) (eval s e vars w n)
  test_fits e vars w n fit = fit_both WorldFits (Fits tables TBool) _ (eval s e vars w n) fit (only_both vars e w n)

  mutual
    unfolding eval type_of where_test

    pub eval_fits : (e : PlainExpr) (locals : List PlainLocal) (wanted : Option PlainTy) (ty : PlainTy) (vars : List Var) (w : W) (n : ℕ) → type_of tables (env_at locals) wanted e ≡ Ok ty → refuses d e ≡ false → VarsFit tables vars locals → WorldFits w
        → GivesFit WorldFits (Fits tables ty) (eval s e vars w n)
    eval_fits (PInt at z) locals wanted ty vars w n h r v p = got (fits_same tables TInt ty (value.Int z) (same_ok TInt ty h) (int z)) p
    eval_fits (PBool at b) locals wanted ty vars w n h r v p = got (fits_same tables TBool ty (value.Bool b) (same_ok TBool ty h) (bool b)) p
    eval_fits (PStr at x) locals wanted ty vars w n h r v p = told_fits tables WorldFits ty _ w n (weighed_fits tables ty (value.Str (literal s.src x)) (fits_same tables TStr ty (value.Str (literal s.src x)) (same_ok TStr ty h) (str (literal s.src x)))) p
    eval_fits (PNil at) locals wanted ty vars w n h r v p = got (fits_same tables TNil ty value.Nil (same_ok TNil ty h) nil) p
    eval_fits (PVar at x) locals wanted ty vars w n h r v p = told_fits tables WorldFits ty _ w n (weighed_fits tables ty (local_value vars x) (name_fits tables vars locals at x ty v h)) p
    eval_fits (PSelf at) locals wanted ty vars w n h r v p = told_fits tables WorldFits ty _ w n (weighed_fits tables ty (entity s.me) (self_fits ty h)) p
    eval_fits (PAttr at on x x_at) locals wanted ty vars w n h r v p =
        let a : (is_self on ≡ true) × (field_of tables s.me.0 x ≡ Some ty) = typed_attr tables (env_at locals) wanted at ty on x x_at h in
        told_fits tables WorldFits ty _ w n (weighed_fits tables ty (own_field s x w) (around.reads at on x x_at ty w a.0 r a.1 p)) p
    eval_fits (PCall at on x x_at args) locals wanted ty vars w n h r v p =
        let a : (c : ℕ) × (m : PlainSig) × (type_of tables (env_at locals) None on ≡ Ok (TEntity c)) × (t.method_of tables c x ≡ Some m) × ((count_of args == length m.params) ≡ true) × (arguments tables (env_at locals) args m.params m.result ≡ Ok ty) = typed_call tables (env_at locals) wanted at ty on x x_at args h in
        let q : (refuses d on ≡ false) × (refuses_any d args ≡ false) = part_call at d on x x_at args r in
        fit_then WorldFits _ _ _ _ (eval_fits on locals None (TEntity a.0) vars w n a.2 q.0 v p) (λ u w n fit p.
        fit_then WorldFits _ _ _ _ (all_fits args locals a.1.params a.1.result ty [] vars w n (eqb-true (count_of args) (length a.1.params) a.4) a.5 q.1 v p) (λ vs w n added p.
        call_fits a.0 x a.1 ty u vs w n a.3 (arguments_result tables (env_at locals) args a.1.params a.1.result ty a.5) fit (subst (λ us. EachFits tables (param_types a.1.params) us) (sym added.1) added.2) p))
    eval_fits (PApply at x args) locals wanted ty vars w n h r v p =
        apply_fits (function_of x) x at args locals ty vars w n (typed_apply tables (env_at locals) wanted at ty x args h)
        (λ test result e. any_fits args locals test result ty [] vars w n e (part_apply at d x args r) v p)
        (λ params result count e. all_fits args locals params result ty [] vars w n count e (part_apply at d x args r) v p)
    eval_fits (PIndex at on index) locals wanted ty vars w n h r v p =
        let a : (type_of tables (env_at locals) None on ≡ Ok (TList ty)) × (type_of tables (env_at locals) None index ≡ Ok TInt) = typed_index tables (env_at locals) wanted at ty on index h in
        let q : (refuses d on ≡ false) × (refuses d index ≡ false) = part_index at d on index r in
        fit_then WorldFits _ _ _ _ (eval_fits on locals None (TList ty) vars w n a.0 q.0 v p) (λ u w n fit p.
        fit_then WorldFits _ _ _ _ (eval_fits index locals None TInt vars w n a.1 q.1 v p) (λ i w n number p.
        let l : (vs : List Value) × (u ≡ value.List vs) × AllFit tables ty vs = as_list tables ty u fit in
        told_fits tables WorldFits ty (element (items_of u) (int_of i)) w n (subst (λ us. ToldFits tables ty (element us (int_of i))) (sym (ap items_of l.1 ∙ items_are tables l.0)) (index_fits tables ty l.0 (int_of i) l.2)) p))
    eval_fits (PList at items) locals wanted ty vars w n h r v p =
        fit_then WorldFits _ _ _ _ (list_fits items locals (option_and_then element_wanted wanted) at ty vars w n h (part_list at d items r) v p) (λ vs w n fit p.
        told_fits tables WorldFits ty _ w n (weighed_fits tables ty (value.List vs) (fits_same tables (TList fit.0) ty (value.List vs) fit.1 (list fit.2))) p)
    eval_fits (PNeg at a) locals wanted ty vars w n h r v p =
        let q : (type_of tables (env_at locals) None a ≡ Ok TInt) × (ty ≡ TInt) = typed_number tables (env_at locals) wanted at ty a h in
        fit_then WorldFits _ _ _ _ (eval_fits a locals None TInt vars w n q.0 (part_neg at d a r) v p) (λ u w n fit p.
        told_fits tables WorldFits ty (in_range (pos 0 -ℤ int_of u)) w n (subst (λ t. ToldFits tables t (in_range (pos 0 -ℤ int_of u))) (sym q.1) (range_fits tables (pos 0 -ℤ int_of u))) p)
    eval_fits (PPos at a) locals wanted ty vars w n h r v p =
        let q : (type_of tables (env_at locals) None a ≡ Ok TInt) × (ty ≡ TInt) = typed_number tables (env_at locals) wanted at ty a h in
        fit_then WorldFits _ _ _ _ (eval_fits a locals None TInt vars w n q.0 (part_pos at d a r) v p) (λ u w n fit p. got (fits_same tables TInt ty (value.Int (int_of u)) (sym q.1) (int (int_of u))) p)
    eval_fits (PNot at a) locals wanted ty vars w n h r v p =
        let q : (type_of tables (env_at locals) None a ≡ Ok TBool) × (ty ≡ TBool) = condition_ok (place_of a) (type_of tables (env_at locals) None a) ty h in
        fit_then WorldFits _ _ _ _ (eval_fits a locals None TBool vars w n q.0 (part_not at d a r) v p) (λ u w n fit p. got (fits_same tables TBool ty (value.Bool (not (is_true u))) (sym q.1) (bool (not (is_true u)))) p)
    eval_fits (PChain at first links) locals wanted ty vars w n h r v p =
        let a : (u : PlainTy) × (type_of tables (env_at locals) None first ≡ Ok u) × (t.linked tables (env_at locals) u links ≡ Ok ty) = typed_chain tables (env_at locals) wanted at ty first links h in
        let q : (refuses d first ≡ false) × (refuses_links d links ≡ false) = part_chain at d first links r in
        fit_then WorldFits _ _ _ _ (eval_fits first locals None a.0 vars w n a.1 q.0 v p) (λ u w n fit p. linked_fits links locals a.0 u ty vars w n a.2 q.1 v fit p)
    eval_fits (PAnd at items) locals wanted ty vars w n h r v p = each_fits true items locals ty vars w n h (part_and at d items r) v p
    eval_fits (POr at items) locals wanted ty vars w n h r v p = each_fits false items locals ty vars w n h (part_or at d items r) v p
    eval_fits (PCompare at o op_at left right) locals wanted ty vars w n h r v p =
        let a : (u : PlainTy) × (y : PlainTy) × (type_of tables (env_at locals) None left ≡ Ok u) × (type_of tables (env_at locals) None right ≡ Ok y) × (ty ≡ TBool) = typed_compare tables (env_at locals) wanted at ty o op_at left right h in
        let q : (refuses d left ≡ false) × (refuses d right ≡ false) = part_compare at d o op_at left right r in
        fit_then WorldFits _ _ _ _ (eval_fits left locals None a.0 vars w n a.2 q.0 v p) (λ x w n fit p.
        fit_then WorldFits _ _ _ _ (eval_fits right locals None a.1 vars w n a.3 q.1 v p) (λ y w n fit p. got (fits_same tables TBool ty _ (sym a.4) (bool _)) p))
    eval_fits (PIsNone at a positive) locals wanted ty vars w n h r v p =
        let q : (u : PlainTy) × (type_of tables (env_at locals) None a ≡ Ok u) × (ty ≡ TBool) = typed_none_test tables (env_at locals) wanted at ty a positive h in
        fit_then WorldFits _ _ _ _ (eval_fits a locals None q.0 vars w n q.1 (part_none_test at d a positive r) v p) (λ u w n fit p. got (fits_same tables TBool ty _ (sym q.2) (bool _)) p)
    eval_fits (PCond at test a b) locals wanted ty vars w n h r v p =
        let q : (x : PlainTy) × (y : PlainTy) × (type_of tables (env_at locals) None test ≡ Ok TBool) × (type_of tables (where_test true test (env_at locals)) wanted a ≡ Ok x) × (type_of tables (where_test false test (env_at locals)) wanted b ≡ Ok y) × (join x y ≡ Some ty) = typed_cond tables (env_at locals) wanted at ty test a b h in
        let k : (refuses d test ≡ false) × (refuses d a ≡ false) × (refuses d b ≡ false) = part_cond at d test a b r in
        let j : ((v : Value) → Fits tables q.0 v → Fits tables ty v) × ((v : Value) → Fits tables q.1 v → Fits tables ty v) = fits_joined tables q.0 q.1 ty q.5 in
        fit_then WorldFits (Tests vars test) _ _ _ (test_fits test vars w n (eval_fits test locals None TBool vars w n q.2 k.0 v p)) (λ u w n tests p.
        by_truth (is_true u) (Fits tables ty) (eval s a vars w n) (eval s b vars w n)
        (λ e. fit_more WorldFits _ _ _ (eval_fits a (narrowed (shown true test) locals) wanted q.0 vars w n q.3 k.1 (narrowed_fits tables vars (shown true test) locals (tests.1 true e) v) p) j.0)
        (λ e. fit_more WorldFits _ _ _ (eval_fits b (narrowed (shown false test) locals) wanted q.1 vars w n q.4 k.2 (narrowed_fits tables vars (shown false test) locals (tests.1 false e) v) p) j.1))

    all_fits : (xs : PlainExprs) (locals : List PlainLocal) (params : List PlainSigParam) (result ty : PlainTy) (vs : List Value) (vars : List Var) (w : W) (n : ℕ) → count_of xs ≡ length params → arguments tables (env_at locals) xs params result ≡ Ok ty → refuses_any d xs ≡ false → VarsFit tables vars locals → WorldFits w
        → GivesFit WorldFits (Adds tables (param_types params) vs) (eval_all s xs vs vars w n)
    all_fits PNoExpr locals [] result ty vs vars w n count h r v p = got ([], sym (append-nil vs), no_value) p
    all_fits PNoExpr locals (q ∷ ps) result ty vs vars w n count h r v p = absurd (omega (arith, count))
    all_fits (PExpr x xs) locals [] result ty vs vars w n count h r v p = absurd (omega (arith, count))
    all_fits (PExpr x xs) locals (q ∷ ps) result ty vs vars w n count h r v p =
        let a : (u : PlainTy) × (type_of tables (env_at locals) (Some q.ty) x ≡ Ok u) × (fits u q.ty (place_of x) (arguments tables (env_at locals) xs ps result) ≡ Ok ty) = found_ok (type_of tables (env_at locals) (Some q.ty) x) (λ u. fits u q.ty (place_of x) (arguments tables (env_at locals) xs ps result)) ty h in
        let b : (assignable a.0 q.ty ≡ true) × (arguments tables (env_at locals) xs ps result ≡ Ok ty) = passes_ok (assignable a.0 q.ty) Mismatch (place_of x) (arguments tables (env_at locals) xs ps result) ty a.2 in
        let k : (refuses d x ≡ false) × (refuses_any d xs ≡ false) = part_more d x xs r in
        let left : count_of xs ≡ length ps = omega (arith, count) in
        fit_then WorldFits _ _ _ _ (eval_fits x locals (Some q.ty) a.0 vars w n a.1 k.0 v p) (λ u w n fit p.
        fit_more WorldFits (Adds tables (param_types ps) (vs ++ u ∷ [])) (Adds tables (param_types (q ∷ ps)) vs) _ (all_fits xs locals ps result ty (vs ++ u ∷ []) vars w n left b.1 k.1 v p)
        (λ ws add. (u ∷ add.0, add.1 ∙ append_assoc vs (u ∷ []) add.0, one_more (fits_wider tables a.0 q.ty u b.0 fit) add.2)))

    any_fits : (xs : PlainExprs) (locals : List PlainLocal) (test : PlainTy → Bool) (result ty : PlainTy) (vs : List Value) (vars : List Var) (w : W) (n : ℕ) → t.each_is test tables (env_at locals) xs result ≡ Ok ty → refuses_any d xs ≡ false → VarsFit tables vars locals → WorldFits w
        → GivesFit WorldFits (λ us. Unit {0}) (eval_all s xs vs vars w n)
    any_fits PNoExpr locals test result ty vs vars w n h r v p = got tt p
    any_fits (PExpr x xs) locals test result ty vs vars w n h r v p =
        let a : (u : PlainTy) × (type_of tables (env_at locals) None x ≡ Ok u) × (operand u test (place_of x) (t.each_is test tables (env_at locals) xs result) ≡ Ok ty) = found_ok (type_of tables (env_at locals) None x) (λ u. operand u test (place_of x) (t.each_is test tables (env_at locals) xs result)) ty h in
        let k : (refuses d x ≡ false) × (refuses_any d xs ≡ false) = part_more d x xs r in
        fit_then WorldFits _ _ _ _ (eval_fits x locals None a.0 vars w n a.1 k.0 v p) (λ u w n fit p.
        any_fits xs locals test result ty (vs ++ u ∷ []) vars w n (operand_ok a.0 test (place_of x) (t.each_is test tables (env_at locals) xs result) ty a.2).1 k.1 v p)

    list_fits : (xs : PlainExprs) (locals : List PlainLocal) (wanted : Option PlainTy) (at : Place) (ty : PlainTy) (vars : List Var) (w : W) (n : ℕ) → list_of tables (env_at locals) wanted at xs ≡ Ok ty → refuses_any d xs ≡ false → VarsFit tables vars locals → WorldFits w
        → GivesFit WorldFits (λ us. (element : PlainTy) × (TList element ≡ ty) × AllFit tables element us) (eval_all s xs [] vars w n)
    list_fits PNoExpr locals wanted at ty vars w n h r v p = let e : (u : PlainTy) × (TList u ≡ ty) = empty_ok wanted at ty h in got (e.0, e.1, empty) p
    list_fits (PExpr x xs) locals None at ty vars w n h r v p =
        let a : (u : PlainTy) × (type_of tables (env_at locals) None x ≡ Ok u) × (elements tables (env_at locals) u xs ≡ Ok ty) = found_ok (type_of tables (env_at locals) None x) (λ u. elements tables (env_at locals) u xs) ty h in
        let k : (refuses d x ≡ false) × (refuses_any d xs ≡ false) = part_more d x xs r in
        fit_then WorldFits _ _ _ _ (eval_fits x locals None a.0 vars w n a.1 k.0 v p) (λ u w n fit p.
        fit_more WorldFits (AllFit tables a.0) _ _ (elements_fit xs locals a.0 ty ([] ++ u ∷ []) vars w n a.2 k.1 v (more fit empty) p) (λ us fits. (a.0, elements_result tables (env_at locals) a.0 xs ty a.2, fits)))
    list_fits (PExpr x xs) locals (Some e) at ty vars w n h r v p =
        let a : (u : PlainTy) × (type_of tables (env_at locals) (Some e) x ≡ Ok u) × (fits u e (place_of x) (elements tables (env_at locals) e xs) ≡ Ok ty) = found_ok (type_of tables (env_at locals) (Some e) x) (λ u. fits u e (place_of x) (elements tables (env_at locals) e xs)) ty h in
        let b : (assignable a.0 e ≡ true) × (elements tables (env_at locals) e xs ≡ Ok ty) = passes_ok (assignable a.0 e) Mismatch (place_of x) (elements tables (env_at locals) e xs) ty a.2 in
        let k : (refuses d x ≡ false) × (refuses_any d xs ≡ false) = part_more d x xs r in
        fit_then WorldFits _ _ _ _ (eval_fits x locals (Some e) a.0 vars w n a.1 k.0 v p) (λ u w n fit p.
        fit_more WorldFits (AllFit tables e) _ _ (elements_fit xs locals e ty ([] ++ u ∷ []) vars w n b.1 k.1 v (first_element e a.0 u b.0 fit) p) (λ us fits. (e, elements_result tables (env_at locals) e xs ty b.1, fits)))

    elements_fit : (xs : PlainExprs) (locals : List PlainLocal) (element ty : PlainTy) (vs : List Value) (vars : List Var) (w : W) (n : ℕ) → elements tables (env_at locals) element xs ≡ Ok ty → refuses_any d xs ≡ false → VarsFit tables vars locals → AllFit tables element vs → WorldFits w
        → GivesFit WorldFits (AllFit tables element) (eval_all s xs vs vars w n)
    elements_fit PNoExpr locals e ty vs vars w n h r v fit p = got fit p
    elements_fit (PExpr x xs) locals e ty vs vars w n h r v fit p =
        let a : (u : PlainTy) × (type_of tables (env_at locals) (Some e) x ≡ Ok u) × (fits u e (place_of x) (elements tables (env_at locals) e xs) ≡ Ok ty) = found_ok (type_of tables (env_at locals) (Some e) x) (λ u. fits u e (place_of x) (elements tables (env_at locals) e xs)) ty h in
        let b : (assignable a.0 e ≡ true) × (elements tables (env_at locals) e xs ≡ Ok ty) = passes_ok (assignable a.0 e) Mismatch (place_of x) (elements tables (env_at locals) e xs) ty a.2 in
        let k : (refuses d x ≡ false) × (refuses_any d xs ≡ false) = part_more d x xs r in
        fit_then WorldFits _ _ _ _ (eval_fits x locals (Some e) a.0 vars w n a.1 k.0 v p) (λ u w n one p.
        elements_fit xs locals e ty (vs ++ u ∷ []) vars w n b.1 k.1 v (fit_behind tables e vs (u ∷ []) fit (first_element e a.0 u b.0 one)) p)

    linked_fits : (ls : PlainLinks) (locals : List PlainLocal) (left : PlainTy) (u : Value) (ty : PlainTy) (vars : List Var) (w : W) (n : ℕ) → t.linked tables (env_at locals) left ls ≡ Ok ty → refuses_links d ls ≡ false → VarsFit tables vars locals → Fits tables left u → WorldFits w
        → GivesFit WorldFits (Fits tables ty) (linked s ls u vars w n)
    linked_fits PNoLink locals left u ty vars w n h r v fit p = got (fits_same tables left ty u (same_ok left ty h) fit) p
    linked_fits (PMoreLinks (PLink o at right) ls) locals left u ty vars w n h r v fit p =
        let then_linked : PlainTy → Result PlainTy RuleFault = λ both. t.linked tables (env_at locals) both ls in
        let a : (y : PlainTy) × (type_of tables (env_at locals) (right_wanted o left) right ≡ Ok y) × (with_found (t.combined o at left y) then_linked ≡ Ok ty) = found_ok (type_of tables (env_at locals) (right_wanted o left) right) (λ y. with_found (t.combined o at left y) then_linked) ty h in
        let b : (both : PlainTy) × (t.combined o at left a.0 ≡ Ok both) × (then_linked both ≡ Ok ty) = found_ok (t.combined o at left a.0) then_linked ty a.2 in
        let c : (left ≡ b.0) × Joins o left a.0 = combined_ok o at left a.0 b.0 b.1 in
        let k : (refuses d right ≡ false) × (refuses_links d ls ≡ false) = part_link at d o right ls r in
        fit_then WorldFits _ _ _ _ (eval_fits right locals (right_wanted o left) a.0 vars w n a.1 k.0 v p) (λ y w n one p.
        fit_then WorldFits _ _ _ _ (told_fits tables WorldFits left (combined o u y) w n (combined_fits tables o left a.0 u y c.1 fit one) p) (λ both w n fit p.
        linked_fits ls locals b.0 both ty vars w n b.2 k.1 v (fits_same tables left b.0 both c.0 fit) p))

    each_fits : (truth : Bool) (xs : PlainExprs) (locals : List PlainLocal) (ty : PlainTy) (vars : List Var) (w : W) (n : ℕ) → conditions tables (env_at locals) truth xs ≡ Ok ty → refuses_any d xs ≡ false → VarsFit tables vars locals → WorldFits w
        → GivesFit WorldFits (Fits tables ty) (each_is s truth xs vars w n)
    each_fits truth PNoExpr locals ty vars w n h r v p = got (fits_same tables TBool ty (value.Bool truth) (same_ok TBool ty h) (bool truth)) p
    each_fits truth (PExpr x xs) locals ty vars w n h r v p =
        let a : (c : PlainTy) × (as_condition (place_of x) (type_of tables (env_at locals) None x) ≡ Ok c) × (conditions tables (where_test truth x (env_at locals)) truth xs ≡ Ok ty) = found_ok (as_condition (place_of x) (type_of tables (env_at locals) None x)) (λ c. conditions tables (where_test truth x (env_at locals)) truth xs) ty h in
        let b : (type_of tables (env_at locals) None x ≡ Ok TBool) × (a.0 ≡ TBool) = condition_ok (place_of x) (type_of tables (env_at locals) None x) a.0 a.1 in
        let k : (refuses d x ≡ false) × (refuses_any d xs ≡ false) = part_more d x xs r in
        fit_then WorldFits (Tests vars x) _ _ _ (test_fits x vars w n (eval_fits x locals None TBool vars w n b.0 k.0 v p)) (λ u w n tests p.
        by_truth (same_truth (is_true u) truth) (Fits tables ty) (each_is s truth xs vars w n) (Got (value.Bool (not truth)) w n)
        (λ e. each_fits truth xs (narrowed (shown truth x) locals) ty vars w n a.2 k.1 (narrowed_fits tables vars (shown truth x) locals (tests.1 truth (same_is_equal (is_true u) truth e)) v) p)
        (λ e. got (fits_same tables TBool ty (value.Bool (not truth)) (conditions_result tables (where_test truth x (env_at locals)) truth xs ty a.2) (bool (not truth))) p))
