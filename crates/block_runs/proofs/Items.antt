-- The items of a block: where they go on, the variables fit what is asked behind them; what they return and how they fail fits too.
use Rattle.std.proofs.Common.{◌≡◌, ℕ, zero, suc, arith, true, false, Option, Some, None, List, [], ◌∷◌, refl, sym, ap, ◌∙◌, true≢false}
use Rattle.std.specs.Prelude.{option_map}
use Rattle.std.specs.List.{list_all}
use Rattle.std.specs.Cmp.Derive.{both_true as both_hold}
use Rattle.py_tree.specs.PlainTypes.{PlainTy, TStr}
use Rattle.py_tree.specs.PlainExpressions.{PlainExpr}
use Rattle.py_tree.specs.PlainStatements.{PlainStmts}
use Rattle.py_tree.specs.PlainProgram.{PlainProgram}
use Rattle.py_tree.specs.ClassRules.{PlainTable, tables_of}
use Rattle.py_tree.specs.FlowEnvironment.{PlainLocal}
use Rattle.py_tree.specs.ExpressionTypes.{field_of}
use Rattle.py_tree.specs.Flow.{Context, begun, in_method, result_at, with_local, keeps}
use Rattle.call_graph.specs.SuspendingCode.{Leaving}
use Rattle.sf_value.specs.Keys.{Key}
use Rattle.sf_value.specs.declared.Failure.{Failure}
use Rattle.sf_value.specs.declared.value.Value.{Value}
use Rattle.program_meaning.specs.declared.vars.Var.{Var}
use Rattle.program_meaning.specs.ClassTables.{fields_of}
use Rattle.program_meaning.specs.World.{Gives, Got, Fell, Ends, Goes, Returns, Fails, with_given, next, step_limit, with_field}
use Rattle.program_meaning.specs.Evaluation.{Site, eval}
use Rattle.program_meaning.specs.Execution.{message, act_all}
use Rattle.program_meaning.specs.Calls.{Held, on_record}
use Rattle.program_meaning.specs.Fits.{Fits, RecordFits, FailureFits}
use Rattle.program_meaning.specs.PointFits as point
use Rattle.program_meaning.specs.PointFits.{VarsFit, GivesFit, OneType, EndsFit}
use Rattle.program_meaning.specs.NothingGoesWrong.{IsKnownAccepted}
use Rattle.program_meaning.specs.HereInState.{KeepsWithin}
use Rattle.program_meaning.specs.HereFits.{HeldFits}
use Rattle.program_meaning.proofs.FitsLaws.{fits_wider}
use Rattle.program_meaning.proofs.EvalFits.{fit_then}
use Rattle.program_meaning.proofs.FlowParts.{same_assignable}
use Rattle.program_meaning.proofs.FlowGrows.{follows_all}
use Rattle.program_meaning.proofs.LocalShapes.{shapes, type_in, type_found, Sound, local_grows}
use Rattle.program_meaning.proofs.AssignedFits.{local_given}
use Rattle.program_meaning.proofs.TableFacts.{written_fits}
use Rattle.program_meaning.proofs.ValuesFit.{failure_fits}
use Rattle.program_meaning.proofs.HereFits.{expressions_here_fit, statements_here_fit}
use Rattle.block_code.specs.PlainVars.{PlainVar}
use Rattle.block_code.specs.PlainBlocks.{PlainItem, IMark, ISet, IPut, IGive, IFail, ICode}
use Rattle.block_code.specs.GraphFits.{Asked, HasType, Takes, FieldTakes, CodeFits, MessageFits, ItemFits, ItemsFit, AtEachItem}
use Rattle.block_code.specs.EventsFit.{item_goes_on}
use Rattle.block_runs.specs.BlockRuns.{run_item, run_items}
use Rattle.block_runs.proofs.Variables.{Kept, Supplied, supplied_kept, sound_one_type}
use Rattle.block_runs.proofs.SparedHere.{code_spares}

-- a method on the record of its entity, whose code by these marks doesn't suspend
module _ (names : List (List ℕ)) (program : PlainProgram) (accepted : IsKnownAccepted names program) (me : Key) (leaves : Leaving) (within : KeepsWithin (record { program = program; names = names }) me.0 leaves) (d number : ℕ) where
  abbrev tables : List PlainTable
  tables = tables_of names program

  abbrev c : Context
  c = in_method tables me.0 number

  abbrev s : Site Held
  s = on_record (record { program = program; names = names }) me d

  abbrev Fine : Held → Type 0
  Fine = HeldFits tables me.0

  pub value_fits : (locals : List PlainLocal) (e : PlainExpr) (ty : PlainTy) (vars : List Var) (h : Held) (n : ℕ) → HasType c leaves locals e ty → VarsFit tables vars locals → Fine h → GivesFit Fine (Fits tables ty) (eval s e vars h n)
  value_fits locals e ty vars h n t v p = expressions_here_fit names program accepted me leaves within d (Some number) locals t.wanted e ty vars h n t.stays t.typed v p

  message_fits : (locals : List PlainLocal) (e : Option PlainExpr) (vars : List Var) (h : Held) (n : ℕ) → MessageFits c leaves locals e → VarsFit tables vars locals → Fine h → GivesFit Fine (λ text. Unit {0}) (message s e vars h n)
  unfolding message
  message_fits locals None vars h n t v p = point.got tt p
  message_fits locals (Some e) vars h n t v p = fit_then Fine (Fits tables TStr) _ _ _ (value_fits locals e TStr vars h n t v p) (λ u h n fit p. point.got tt p)

  put_fits : (x : ℕ) (ty : PlainTy) (v : Value) (fields : List Value) → field_of tables me.0 x ≡ Some ty → Fits tables ty v → RecordFits tables me.0 fields → RecordFits tables me.0 (with_field (fields_of (record { program = program; names = names }) me.0) fields x v)
  put_fits x ty v fields is fit r = record { table = r.table; has_table = r.has_table; fit = written_fits names program accepted.rules.classes me.0 r.table x ty fields v r.has_table is r.fit fit }

  -- One item

  -- what an item comes to from these locals; whatever items stand behind it, the point after it is one of theirs
  data ItemEnds (i : PlainItem) (locals : List PlainLocal) (goal : Asked) : Ends Held → Type 0 where
    goes : {vars : List Var} {h : Held} {n : ℕ} → (after : List PlainLocal) → item_goes_on i ≡ true → goal after → VarsFit tables vars after → Sound (shapes after) → Fine h
        → ((is : List PlainItem) (params : List PlainVar) → AtEachItem (Supplied params) c (i ∷ is) locals → AtEachItem (Supplied params) c is after) → ItemEnds i locals goal (Goes vars h n)
    returns : {v : Value} {h : Held} {n : ℕ} → Fits tables (result_at c) v → Fine h → ItemEnds i locals goal (Returns v h n)
    fails : {f : Failure} {vars : List Var} {h : Held} {n : ℕ} → FailureFits f → Fine h
        → ((is : List PlainItem) (params : List PlainVar) → AtEachItem (Supplied params) c (i ∷ is) locals → Kept tables vars params) → ItemEnds i locals goal (Fails f vars h n)

  given_ends : {A : Type 0} (i : PlainItem) (locals : List PlainLocal) (goal : Asked) (P : A → Type 0) (vars : List Var) (g : Gives Held A) (k : A → Held → ℕ → Ends Held) → VarsFit tables vars locals
      → ((is : List PlainItem) (params : List PlainVar) → AtEachItem (Supplied params) c (i ∷ is) locals → Supplied params locals) → GivesFit Fine P g
      → ((x : A) (h : Held) (n : ℕ) → P x → Fine h → ItemEnds i locals goal (k x h n)) → ItemEnds i locals goal (with_given vars g k)
  given_ends i locals goal P vars (Got x h n) k v first (point.got p q) rest = rest x h n p q
  given_ends i locals goal P vars (Fell f h n) k v first (point.fell p q) rest = fails p q (λ is params at. supplied_kept tables vars locals params v (first is params at))

  code_ends : (xs : PlainStmts) (locals : List PlainLocal) (goal : Asked) (vars : List Var) (h : Held) (n : ℕ) → (f : CodeFits c leaves locals xs goal) → VarsFit tables vars locals → Sound (shapes locals) → Fine h
      → (e : Ends Held) → act_all s xs vars h n ≡ e → EndsFit tables Fine c xs (begun locals) f.way e → ItemEnds (ICode xs) locals goal e
  unfolding AtEachItem
  code_ends xs locals goal vars h n f v sound p _ is (point.goes on fit q) = goes f.way.locals on (f.goes on) fit ((follows_all xs c (begun locals) f.way f.flows).grows.sound sound) q (λ is params at. at.1 on f.way f.flows)
  code_ends xs locals goal vars h n f v sound p _ is (point.returns fit q) = returns fit q
  code_ends xs locals goal vars h n f v sound p _ is (point.leaves known inside there found fit q) = absurd (true≢false (sym inside))
  code_ends xs locals goal vars h n f v sound p _ is (point.turns inside q) = absurd (true≢false (sym inside))
  code_ends xs locals goal vars h n f v sound p _ is (point.fails {f = e} {vars = left} {w = k} {n = m} fit stay q) =
      fails fit q (λ others params at. code_spares names program accepted me leaves within d number params locals xs f.way vars h n f.flows f.raises f.stays sound v p at.0 e left k m is)

  item_ends : (i : PlainItem) (locals : List PlainLocal) (goal : Asked) (vars : List Var) (h : Held) (n : ℕ) → ItemFits c leaves i goal locals → VarsFit tables vars locals → Sound (shapes locals) → Fine h → ItemEnds i locals goal (run_item s i vars h n)
  unfolding run_item AtEachItem
  item_ends IMark locals goal vars h zero f v sound p = fails (failure_fits step_limit (omega arith) (omega arith)) p (λ is params at. supplied_kept tables vars locals params v at.0)
  item_ends IMark locals goal vars h (suc n) f v sound p = goes locals refl f v sound p (λ is params at. at.1)
  item_ends (ISet x e) locals goal vars h n f v sound p =
      let t : Takes locals x f.0 goal = f.2 in
      let kept : keeps f.0 (type_in (shapes locals) x) ≡ true = ap (keeps f.0) (sym (type_found locals x) ∙ ap (option_map (λ (l : PlainLocal). l.ty)) t.is) ∙ t.suits in
      given_ends (ISet x e) locals goal (Fits tables f.0) vars (eval s e vars h n) _ v (λ is params at. at.0) (value_fits locals e f.0 vars h n f.1 v p) (λ u h n fit p.
      goes (with_local x f.0 f.0 locals) refl t.goes (local_given tables vars x f.0 u fit f.0 locals sound kept (same_assignable c locals f.0) v) ((local_grows x f.0 f.0 locals).sound sound) p
      (λ is params at. at.1 f.1.wanted f.0 f.1.typed))
  item_ends (IPut x e) locals goal vars h n f v sound p =
      let t : FieldTakes c leaves locals x e = f.0 in
      given_ends (IPut x e) locals goal (Fits tables t.fits.ty) vars (eval s e vars h n) _ v (λ is params at. at.0) (value_fits locals e t.fits.ty vars h n t.fits.has v p) (λ u h n fit p.
      goes locals refl f.1 v sound (put_fits x t.ty u h.fields t.is (fits_wider tables t.fits.ty t.ty u t.fits.suits fit) p) (λ is params at. at.1))
  item_ends (IGive e) locals goal vars h n f v sound p =
      given_ends (IGive e) locals goal (Fits tables f.ty) vars (eval s e vars h n) _ v (λ is params at. at) (value_fits locals e f.ty vars h n f.has v p) (λ u h n fit p. returns (fits_wider tables f.ty (result_at c) u f.suits fit) p)
  item_ends (IFail kind e) locals goal vars h n f v sound p =
      given_ends (IFail kind e) locals goal (λ text. Unit {0}) vars (message s e vars h n) _ v (λ is params at. at) (message_fits locals e vars h n f.2 v p) (λ text h n u p.
      fails (failure_fits _ f.0 f.1) p (λ is params at. supplied_kept tables vars locals params v at))
  item_ends (ICode xs) locals goal vars h n f v sound p =
      code_ends xs locals goal vars h n f v sound p (act_all s xs vars h n) refl
      (statements_here_fit names program accepted me leaves within d number false xs (begun locals) f.way vars h n f.stays f.flows f.raises (sound_one_type locals sound) v p)

  -- All items

  pub data ItemsEnd (is : List PlainItem) (locals : List PlainLocal) (goal : Asked) : Ends Held → Type 0 where
    go : {vars : List Var} {h : Held} {n : ℕ} → (after : List PlainLocal) → list_all item_goes_on is ≡ true → goal after → VarsFit tables vars after → Fine h
        → ((params : List PlainVar) → AtEachItem (Supplied params) c is locals → Supplied params after) → ItemsEnd is locals goal (Goes vars h n)
    return : {v : Value} {h : Held} {n : ℕ} → Fits tables (result_at c) v → Fine h → ItemsEnd is locals goal (Returns v h n)
    fail : {f : Failure} {vars : List Var} {h : Held} {n : ℕ} → FailureFits f → Fine h
        → ((params : List PlainVar) → AtEachItem (Supplied params) c is locals → Kept tables vars params) → ItemsEnd is locals goal (Fails f vars h n)

  then_end : (i : PlainItem) (is : List PlainItem) (locals after : List PlainLocal) (goal : Asked) (e : Ends Held) → item_goes_on i ≡ true → ((params : List PlainVar) → AtEachItem (Supplied params) c (i ∷ is) locals → AtEachItem (Supplied params) c is after)
      → ItemsEnd is after goal e → ItemsEnd (i ∷ is) locals goal e
  then_end i is locals after goal _ on later (go last all g v p at_last) = go last (both_hold on all) g v p (λ params at. at_last params (later params at))
  then_end i is locals after goal _ on later (return f p) = return f p
  then_end i is locals after goal _ on later (fail f p spared) = fail f p (λ params at. spared params (later params at))

  next_end : (i : PlainItem) (is : List PlainItem) (locals : List PlainLocal) (mid goal : Asked) (e : Ends Held) (k : List Var → Held → ℕ → Ends Held) → ItemEnds i locals mid e
      → ((after : List PlainLocal) (vars : List Var) (h : Held) (n : ℕ) → mid after → VarsFit tables vars after → Sound (shapes after) → Fine h → ItemsEnd is after goal (k vars h n)) → ItemsEnd (i ∷ is) locals goal (next e k)
  next_end i is locals mid goal _ k (goes {vars = vars} {h = h} {n = n} after on g v sound p later) rest = then_end i is locals after goal (k vars h n) on (λ params at. later is params at) (rest after vars h n g v sound p)
  next_end i is locals mid goal _ k (returns f p) rest = return f p
  next_end i is locals mid goal _ k (fails f p spared) rest = fail f p (λ params at. spared is params at)

  pub items_end : (is : List PlainItem) (locals : List PlainLocal) (goal : Asked) (vars : List Var) (h : Held) (n : ℕ) → ItemsFit c leaves is goal locals → VarsFit tables vars locals → Sound (shapes locals) → Fine h → ItemsEnd is locals goal (run_items s is vars h n)
  unfolding run_items ItemsFit AtEachItem
  items_end [] locals goal vars h n f v sound p = go locals refl f v p (λ params at. at)
  items_end (i ∷ is) locals goal vars h n f v sound p =
      next_end i is locals (ItemsFit c leaves is goal) goal (run_item s i vars h n) _ (item_ends i locals (ItemsFit c leaves is goal) vars h n f v sound p) (λ after vars h n g v sound p. items_end is after goal vars h n g v sound p)
