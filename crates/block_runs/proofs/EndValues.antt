-- What the expressions of an end give: a test that narrows, the receiver of a call with its method, and arguments that fit.
use Rattle.std.proofs.Common.{◌≡◌, ℕ, arith, Bool, true, false, Some, Ok, List, [], ◌∷◌, ◌++◌, length, append_assoc, append-nil, sym, ap, ◌∙◌, subst}
use Rattle.std.specs.Prelude.{slice_get}
use Rattle.py_tree.specs.PlainTypes.{PlainTy, TBool, TNil, TEntity}
use Rattle.py_tree.specs.PlainExpressions.{PlainExpr, PlainExprs, PNoExpr, PExpr}
use Rattle.py_tree.specs.PlainProgram.{PlainProgram}
use Rattle.py_tree.specs.ClassRules.{PlainSigParam, PlainSig, PlainTable, tables_of}
use Rattle.py_tree.specs.FlowEnvironment.{PlainLocal, shown}
use Rattle.py_tree.specs.ExpressionTypes.{type_of, arguments, assignable, fits, place_of, count_of}
use Rattle.py_tree.specs.declared.rule.Rule.TheVariants.{Mismatch}
use Rattle.py_tree.specs.Flow.{Context, env_of, in_method}
use Rattle.call_graph.specs.SuspendingCode.{Leaving, expr_suspends, exprs_suspend}
use Rattle.sf_value.specs.Keys.{Key}
use Rattle.sf_value.specs.declared.value.Ref.{Ref}
use Rattle.sf_value.specs.declared.value.Value.{Value}
use Rattle.sf_value.specs.declared.value.Value.TheVariants as value
use Rattle.program_meaning.specs.declared.vars.Var.{Var}
use Rattle.program_meaning.specs.ClassTables.{Source}
use Rattle.program_meaning.specs.Operations.{is_true}
use Rattle.program_meaning.specs.Evaluation.{Site, eval, eval_all, key_in, method_of}
use Rattle.program_meaning.specs.Calls.{Held, on_record}
use Rattle.program_meaning.specs.Fits.{HasTable, Fits, EachFits, no_value, one_more, param_types}
use Rattle.program_meaning.specs.PointFits as point
use Rattle.program_meaning.specs.PointFits.{VarsFit, GivesFit}
use Rattle.program_meaning.specs.NothingGoesWrong.{IsKnownAccepted}
use Rattle.program_meaning.specs.HereInState.{KeepsWithin}
use Rattle.program_meaning.specs.HereFits.{HeldFits}
use Rattle.program_meaning.proofs.FitsLaws.{as_entity, fits_wider}
use Rattle.program_meaning.proofs.EvalFits.{fit_then, fit_more, fit_both}
use Rattle.program_meaning.proofs.ShownLaws.{NotNone, shows}
use Rattle.program_meaning.proofs.HereFits.{expressions_here_fit}
use Rattle.program_meaning.proofs.TypedParts.{found_ok, passes_ok, either_false}
use Rattle.block_code.specs.GraphFits.{HasType, ArgsFit}
use Rattle.block_runs.specs.BlockRuns.{parts_of_call, method_called, name_if_there}
use Rattle.program_meaning.proofs.NamesApart.{same_class, IsMethod, method_is}
use Rattle.block_runs.proofs.Items.{value_fits}

module _ (names : List (List ℕ)) (program : PlainProgram) (accepted : IsKnownAccepted names program) (me : Key) (leaves : Leaving) (within : KeepsWithin (record { program = program; names = names }) me.0 leaves) (d number : ℕ) where
  abbrev src : Source
  src = record { program = program; names = names }

  abbrev tables : List PlainTable
  tables = tables_of names program

  abbrev c : Context
  c = in_method tables me.0 number

  abbrev s : Site Held
  s = on_record src me d

  abbrev Fine : Held → Type 0
  Fine = HeldFits tables me.0

  -- the method that an end calls, by its name in the class of the receiver
  pub called_is : (class method : ℕ) (t : PlainTable) (sig : PlainSig) (v : Value) → HasTable tables class t → slice_get t.methods method ≡ Some sig → Fits tables (TEntity t.name) v → ((key_in v).0 ≡ class) × (method_called src (key_in v).0 class method ≡ method)
  called_is class method t sig v has is fit =
      let e : (at : Ref) × (u : PlainTable) × (v ≡ value.Entity at) × HasTable tables at.class u × (u.name ≡ t.name) = as_entity tables t.name v fit in
      let same : (key_in v).0 ≡ class = ap (λ u. (key_in u).0) e.2 ∙ same_class names program accepted.rules.classes accepted.rules.flow e.0.class class e.1 t e.3 has e.4 in
      let m : IsMethod names program accepted.rules.classes accepted.rules.flow class method sig = method_is names program accepted.rules.classes accepted.rules.flow class method t sig has is in
      (same, ap (λ of. method_called src of class method) same ∙ ap (λ o. method_of src class (name_if_there o)) m.at ∙ m.by_name)

  args_fit : (xs : PlainExprs) (locals : List PlainLocal) (params : List PlainSigParam) (result ty : PlainTy) (vs : List Value) (vars : List Var) (h : Held) (n : ℕ) → count_of xs ≡ length params → arguments tables (env_of c locals) xs params result ≡ Ok ty → exprs_suspend leaves xs ≡ false → VarsFit tables vars locals → Fine h
      → GivesFit Fine (λ ws. (rest : List Value) × (ws ≡ vs ++ rest) × EachFits tables (param_types params) rest) (eval_all s xs vs vars h n)
  unfolding eval_all arguments exprs_suspend
  args_fit PNoExpr locals [] result ty vs vars h n count typed quiet v p = point.got ([], sym (append-nil vs), no_value) p
  args_fit PNoExpr locals (q ∷ ps) result ty vs vars h n count typed quiet v p = absurd (omega (arith, count))
  args_fit (PExpr x xs) locals [] result ty vs vars h n count typed quiet v p = absurd (omega (arith, count))
  args_fit (PExpr x xs) locals (q ∷ ps) result ty vs vars h n count typed quiet v p =
      let a : (u : PlainTy) × (type_of tables (env_of c locals) (Some q.ty) x ≡ Ok u) × (fits u q.ty (place_of x) (arguments tables (env_of c locals) xs ps result) ≡ Ok ty) = found_ok (type_of tables (env_of c locals) (Some q.ty) x) (λ u. fits u q.ty (place_of x) (arguments tables (env_of c locals) xs ps result)) ty typed in
      let b : (assignable a.0 q.ty ≡ true) × (arguments tables (env_of c locals) xs ps result ≡ Ok ty) = passes_ok (assignable a.0 q.ty) Mismatch (place_of x) (arguments tables (env_of c locals) xs ps result) ty a.2 in
      let k : (expr_suspends leaves x ≡ false) × (exprs_suspend leaves xs ≡ false) = either_false (expr_suspends leaves x) (exprs_suspend leaves xs) quiet in
      let left : count_of xs ≡ length ps = omega (arith, count) in
      fit_then Fine _ _ _ _ (expressions_here_fit names program accepted me leaves within d (Some number) locals (Some q.ty) x a.0 vars h n k.0 a.1 v p) (λ u h n fit p.
      fit_more Fine (λ ws. (rest : List Value) × (ws ≡ (vs ++ u ∷ []) ++ rest) × EachFits tables (param_types ps) rest) (λ ws. (rest : List Value) × (ws ≡ vs ++ rest) × EachFits tables (param_types (q ∷ ps)) rest) _ (args_fit xs locals ps result ty (vs ++ u ∷ []) vars h n left b.1 k.1 v p)
      (λ ws add. (u ∷ add.0, add.1 ∙ append_assoc vs (u ∷ []) add.0, one_more (fits_wider tables a.0 q.ty u b.0 fit) add.2)))

  pub all_args_fit : (args : PlainExprs) (locals : List PlainLocal) (params : List PlainSigParam) (vars : List Var) (h : Held) (n : ℕ) → ArgsFit c leaves locals args params → VarsFit tables vars locals → Fine h → GivesFit Fine (EachFits tables (param_types params)) (eval_all s args [] vars h n)
  all_args_fit args locals params vars h n a v p =
      fit_more Fine (λ ws. (rest : List Value) × (ws ≡ [] ++ rest) × EachFits tables (param_types params) rest) (EachFits tables (param_types params)) _ (args_fit args locals params TNil TNil [] vars h n a.count a.typed a.stay v p) (λ ws add. subst (λ us. EachFits tables (param_types params) us) (sym add.1) add.2)

  pub parts_fit : (on : PlainExpr) (args : PlainExprs) (name : ℕ) (locals : List PlainLocal) (params : List PlainSigParam) (vars : List Var) (h : Held) (n : ℕ) → HasType c leaves locals on (TEntity name) → ArgsFit c leaves locals args params → VarsFit tables vars locals → Fine h
      → GivesFit Fine (λ q. Fits tables (TEntity name) q.0 × EachFits tables (param_types params) q.1) (parts_of_call s on args vars h n)
  parts_fit on args name locals params vars h n t a v p =
      fit_then Fine (Fits tables (TEntity name)) _ _ _ (value_fits names program accepted me leaves within d number locals on (TEntity name) vars h n t v p) (λ u h n fit p.
      fit_then Fine (EachFits tables (param_types params)) _ _ _ (all_args_fit args locals params vars h n a v p) (λ us h n each p. point.got (fit, each) p))

  abbrev pub Tested : List Var → PlainExpr → Value → Type 0
  Tested vars e v = (truth : Bool) → is_true v ≡ truth → NotNone vars (shown truth e)

  pub tested : (locals : List PlainLocal) (e : PlainExpr) (vars : List Var) (h : Held) (n : ℕ) → HasType c leaves locals e TBool → VarsFit tables vars locals → Fine h → GivesFit Fine (Tested vars e) (eval s e vars h n)
  tested locals e vars h n t v p =
      fit_more Fine (λ v. (Fits tables TBool v × (is_true v ≡ true → NotNone vars (shown true e))) × (is_true v ≡ false → NotNone vars (shown false e))) (Tested vars e) _
      (fit_both Fine _ _ _ (fit_both Fine (Fits tables TBool) _ _ (value_fits names program accepted me leaves within d number locals e TBool vars h n t v p) (shows s vars e true h n)) (shows s vars e false h n)) (λ v q truth. each v truth q.0.1 q.1)
    where
      each : (v : Value) (truth : Bool) → (is_true v ≡ true → NotNone vars (shown true e)) → (is_true v ≡ false → NotNone vars (shown false e)) → is_true v ≡ truth → NotNone vars (shown truth e)
      each v true p q h = p h
      each v false p q h = q h
