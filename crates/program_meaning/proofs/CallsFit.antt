-- Calls and creations of an accepted program keep what fits.
use Rattle.std.proofs.Common.{◌≡◌, ℕ, zero, suc, arith, Bool, true, false, cond, not, Option, Some, None, Ok, List, [], ◌∷◌, map as over, unwrap_or, refl, sym, ap, ◌∙◌, subst, true≢false}
use Rattle.std.specs.Prelude.{position, slice_get, option_map, option_and_then, ◌&&◌, is_none, filter_map}
use Rattle.std.specs.Ordering.{eq_by_cmp}
use Rattle.std.specs.FinMap as map
use Rattle.std.specs.FinMap.{get-insert}
use Rattle.std.proofs.lemmas.Option.{same_Some}
use Rattle.py_tree.specs.declared.rule.Rule.TheVariants.{InitForm}
use Rattle.py_tree.specs.declared.rule.RuleFault.{RuleFault}
use Rattle.py_tree.specs.PlainTypes.{PlainTy, TStr, TNil, TOptional, TEntity}
use Rattle.py_tree.specs.PlainStatements.{stmts_of}
use Rattle.py_tree.specs.PlainProgram.{PlainMethod, PlainClass, PlainProgram}
use Rattle.py_tree.specs.ClassRules.{PlainField, PlainSig, PlainTable, is_init, first_in, broken, param_fault, init_body_fault, class_fault, whole_fault, member_fault, methods_of as methods_among, init_of as init_among, key_method, key_of, key_fault, params_of, body_of, fields_of, source_in, sig_of, sig_params, table_of, tables_of}
use Rattle.py_tree.specs.FlowEnvironment.{PlainLocal, has_none}
use Rattle.py_tree.specs.ExpressionTypes.{field_of}
use Rattle.py_tree.specs.Reachability.{all_go_on, break_in}
use Rattle.py_tree.specs.Bounded.{EachOfStmts, RaisesFailure}
use Rattle.py_tree.specs.Flow.{result_at, result_in, param_local, Way, begun, flow_all, locals_at_start, sig_at, in_method, init_locals, in_init}
use Rattle.program_meaning.specs.NothingGoesWrong.{IsKnownAccepted}
use Rattle.py_tree.proofs.ClassRuleLaws.{head_none, rest_none, not_broken, class_kept}
use Rattle.sf_value.specs.Keys.{Key, key_cmp}
use Rattle.sf_value.proofs.Maps.{key_total, tied_key}
use Rattle.sf_value.specs.declared.value.Value.{Value}
use Rattle.sf_value.specs.declared.value.Value.TheVariants as value
use Rattle.program_meaning.specs.declared.vars.Var.{Var}
use Rattle.program_meaning.specs.ClassTables.{Source, members_of, init_of, methods_of, fields_of as field_names_of}
use Rattle.program_meaning.specs.World.{State, World, Calls, Gives, Got, Fell, Ends, Goes, Returns, Breaks, Continues, Fails, step, step_limit, recursion_error, no_entity, already_exists, result_of, record_at, local_value, with_field, writing, reading}
use Rattle.program_meaning.specs.Evaluation.{entity}
use Rattle.program_meaning.specs.Execution.{act_all}
use Rattle.program_meaning.specs.Calls.{bound, run_body, declare_all, new_key, made, if_there, create, in_state, enter, calls_at}
use Rattle.program_meaning.specs.Fits.{HasTable, Fits, nil, none, entity as entity_fits, EachFits, no_value, field_types, param_types, RecordFits, StateFits, CallFits, NewFits, ResultFits}
use Rattle.program_meaning.specs.PointFits.{VarsFit, no_local, GivesFit, got, fell, MadeFits, CallsFit, Since}
use Rattle.program_meaning.proofs.Places.{found_at, found_passes}
use Rattle.program_meaning.proofs.TypedParts.{not_false}
use Rattle.program_meaning.proofs.ValuesFit.{failure_fits}
use Rattle.program_meaning.proofs.EvalFits.{Anywhere, Around, fit_more}
use Rattle.program_meaning.proofs.LocalShapes.{shapes, all_in, Sound}
use Rattle.program_meaning.proofs.AssignedFits.{no_more}
use Rattle.program_meaning.proofs.ActFits.{EndFits, goes, returns, leaves, turns, fails, Ready, stmts_fit}
use Rattle.program_meaning.proofs.TableFacts.{matches, class_at, table_methods, methods_here, mapped_at, read_fits, written_fits}
use Rattle.program_meaning.proofs.MethodFacts.{bound_fits, bound_sound, init_flows, params_kept, body_kept, method_member, raises_kept, BodyFlows, body_flows}
use Rattle.program_meaning.proofs.InitFits.{Makes, makes, breaks_off, declared_fit}

makes_so : (P Q : List Value → Type 0) (g : Gives (List Value) Value) → ((fields : List Value) → P fields → Q fields) → Makes P g → Makes Q g
makes_so P Q (Got v fields n) h (makes p) = makes (h fields p)
makes_so P Q (Fell f fields n) h (breaks_off c) = breaks_off c

-- States

module _ (tables : List PlainTable) where
  pub insert_fits : (s : State) (at : Key) (fields : List Value) → StateFits tables s → RecordFits tables at.0 fields → StateFits tables (map.insert s at fields)
  insert_fits s at fields fit new = record { each = λ q a e. by q a (eq_by_cmp key_cmp q at) refl (sym (get-insert key_total s at fields q) ∙ e) }
    where
      by : (q : Key) (a : List Value) (b : Bool) → eq_by_cmp key_cmp q at ≡ b → cond b (Some fields) (map.get s q) ≡ Some a → RecordFits tables q.0 a
      by q a true tie e = subst (λ (k : Key). RecordFits tables k.0 a) (sym (tied_key q at tie)) (subst (λ r. RecordFits tables at.0 r) (same_Some _ _ e) new)
      by q a false tie e = fit.each q a e

  insert_keeps : (s : State) (at : Key) (fields : List Value) (q : Key) (a : List Value) → map.get s q ≡ Some a → (b : List Value) × (map.get (map.insert s at fields) q ≡ Some b)
  insert_keeps s at fields q a h = by (eq_by_cmp key_cmp q at) refl
    where
      by : (b : Bool) → eq_by_cmp key_cmp q at ≡ b → (b : List Value) × (map.get (map.insert s at fields) q ≡ Some b)
      by true tie = (fields, get-insert key_total s at fields q ∙ ap (λ c. cond c (Some fields) (map.get s q)) tie)
      by false tie = (a, get-insert key_total s at fields q ∙ ap (λ c. cond c (Some fields) (map.get s q)) tie ∙ h)

  since_start : (w : World) (at : Key) → StateFits tables w.state → Since tables w.state (reading w at)
  since_start w at fit = record { fits = fit; kept = λ q a e. (a, e) }

  since_read : (s : State) (w : World) (at : Key) → Since tables s w → Since tables s (reading w at)
  since_read s w at p = record { fits = p.fits; kept = p.kept }

  since_on : (s : State) (v w : World) → Since tables s v → Since tables v.state w → Since tables s w
  since_on s v w p q = record { fits = q.fits; kept = λ k a e. let b : (b : List Value) × (map.get v.state k ≡ Some b) = p.kept k a e in q.kept k b.0 b.1 }

  since_written : (s : State) (w : World) (at : Key) (fields : List Value) → Since tables s w → RecordFits tables at.0 fields → Since tables s (writing w at fields)
  since_written s w at fields p fit = record {
    fits = insert_fits w.state at fields p.fits fit;
    kept = λ q a e. let b : (b : List Value) × (map.get w.state q ≡ Some b) = p.kept q a e in insert_keeps w.state at fields q b.0 b.1;
  }

pub fit_world : {W A : Type 0} (F G : W → Type 0) (P : A → Type 0) (g : Gives W A) → ((w : W) → F w → G w) → GivesFit F P g → GivesFit G P g
fit_world F G P (Got x w n) h (got p q) = got p (h w q)
fit_world F G P (Fell f w n) h (fell p q) = fell p (h w q)

nil_fits : (tables : List PlainTable) (ty : PlainTy) → has_none ty ≡ true → Fits tables ty value.Nil
nil_fits tables TNil h = nil
nil_fits tables (TOptional t) h = none
nil_fits tables _ h = absurd (true≢false (sym h))

ends_well : (go has : Bool) → (go && not has) ≡ false → go ≡ true → has ≡ true
ends_well true has h e = not_false has h
ends_well false has h e = absurd (true≢false (sym e))

-- a method that falls off its end gives None
result_fits : (tables : List PlainTable) {W : Type 0} (WorldFits : W → Type 0) (ty : PlainTy) (go br : Bool) (after : Way) (kept : List PlainLocal) (e : Ends W) → (go && not (has_none ty)) ≡ false → EndFits tables WorldFits ty go br false after kept e → GivesFit WorldFits (Fits tables ty) (result_of e)
result_fits tables WorldFits ty go br after kept (Goes vars w n) h (goes g v k p) = got (nil_fits tables ty (ends_well go (has_none ty) h g)) p
result_fits tables WorldFits ty go br after kept (Returns v w n) h (returns f p) = got f p
result_fits tables WorldFits ty go br after kept (Breaks vars w n) h (leaves i c m k p) = absurd (true≢false (sym i))
result_fits tables WorldFits ty go br after kept (Continues vars w n) h (turns i k p) = absurd (true≢false (sym i))
result_fits tables WorldFits ty go br after kept (Fails f vars w n) h (fails c k p) = fell c p

pub is_some_of : {A : Type 0} (o : Option A) → is_none o ≡ false → (x : A) × (o ≡ Some x)
is_some_of None h = absurd (true≢false h)
is_some_of (Some x) h = (x, refl)

module _ (names : List (List ℕ)) (program : PlainProgram) (accepted : IsKnownAccepted names program) where
  abbrev src : Source
  src = record { program = program; names = names }

  abbrev tables : List PlainTable
  tables = tables_of names program

  -- Methods

  module _ (s : State) (calls : Calls World) (calls_fit : CallsFit tables (Since tables s) calls) (at : Key) (fields : List Value) (is_there : map.get s at ≡ Some fields) (table : PlainTable) (has : HasTable tables at.0 table) where
    record_fits : (w : World) → Since tables s w → EachFits tables (field_types table) (record_at w at)
    record_fits w p =
        let b : (b : List Value) × (map.get w.state at ≡ Some b) = p.kept at fields is_there in
        let r : RecordFits tables at.0 b.0 = p.fits.each at b.0 b.1 in
        let same : r.table ≡ table = same_Some _ _ (sym r.has_table ∙ has) in
        subst (λ vs. EachFits tables (field_types table) vs) (sym (ap (λ o. unwrap_or o []) b.1)) (subst (λ t. EachFits tables (field_types t) b.0) same r.fit)

    pub around_method : Around tables (in_state src calls at) Anywhere (Since tables s)
    around_method = record {
      matches = matches names program accepted.rules.classes;
      table = table;
      has_table = has;
      reads = λ place on x x_at ty w self free h p. read_fits names program accepted.rules.classes at.0 table x ty (record_at w at) has h (record_fits w p);
      calls = calls_fit;
    }

    pub puts_fit : (x : ℕ) (ty : PlainTy) (v : Value) (w : World) → field_of tables at.0 x ≡ Some ty → Fits tables ty v → Since tables s w → Since tables s (writing w at (with_field (field_names_of src at.0) (record_at w at) x v))
    puts_fit x ty v w h f p = since_written tables s w at (with_field (field_names_of src at.0) (record_at w at) x v) p
        (record { table = table; has_table = has; fit = written_fits names program accepted.rules.classes at.0 table x ty (record_at w at) v has h (record_fits w p) f })

    method_fits : (j : ℕ) (sig : PlainSig) (args : List Value) (w : World) (n : ℕ) → slice_get table.methods j ≡ Some sig → EachFits tables (param_types sig.params) args → Since tables s w → GivesFit (Since tables s) (Fits tables sig.result) (run_body (in_state src calls at) (slice_get (methods_of src at.0) j) args w n)
    unfolding run_body result_at
    method_fits j sig args w n has_method fit p =
        let k : ℕ = at.0 in
        let c : (c : PlainClass) × (slice_get program k ≡ Some c) × (table_of names c ≡ table) = class_at names program accepted.rules.classes k table has in
        let ms : List PlainMethod = methods_among names c.0.members in
        let in_table : table.methods ≡ over sig_of ms = ap (λ (u : PlainTable). u.methods) (sym c.2) ∙ table_methods names program accepted.rules.classes c.0 in
        let m : (m : PlainMethod) × (slice_get ms j ≡ Some m) × (sig_of m ≡ sig) = mapped_at sig_of ms j sig (sym (ap (λ sigs. slice_get sigs j) in_table) ∙ has_method) in
        let i : (i : ℕ) × (slice_get c.0.members i ≡ Some m.0) = method_member names program accepted.rules.classes accepted.rules.flow j c.0 m.0 m.1 in
        let b : BodyFlows names program accepted.rules.classes accepted.rules.flow k j m.0 = body_flows names program accepted.rules.classes accepted.rules.flow k j c.0 m.0 c.1 m.1 in
        let params : first_in (param_fault program) m.0.params ≡ None = params_kept names program accepted.rules.classes accepted.rules.flow k i.0 c.0 m.0 c.1 i.1 in
        let raises : EachOfStmts RaisesFailure (stmts_of m.0.body) = raises_kept names program accepted.rules.classes accepted.rules.flow accepted.bounded k i.0 c.0 m.0 c.1 i.1 in
        let has_sig : sig_at tables k j ≡ Some sig = ap (λ o. option_and_then (λ (t : PlainTable). slice_get t.methods j) o) has ∙ has_method in
        let result : result_at (in_method tables k j) ≡ sig.result = ap result_in has_sig in
        let start : locals_at_start (sig_at tables k j) ≡ over param_local (sig_params m.0.params) = ap locals_at_start has_sig ∙ ap (λ (u : PlainSig). over param_local u.params) (sym m.2) in
        let vars : List Var = bound m.0.params args in
        let bound_args : VarsFit tables vars (over param_local (sig_params m.0.params)) = bound_fits tables program m.0.params args params (subst (λ (u : PlainSig). EachFits tables (param_types u.params) args) (sym m.2) fit) in
        let ready : Ready tables (in_state src calls at) (Since tables s) j around_method puts_fit _ (locals_at_start (sig_at tables k j)) [] vars = record {
          sound = subst (λ ls. Sound (shapes ls)) (sym start) (bound_sound tables program m.0.params params);
          within = all_in;
          forgets = no_more;
          fit = subst (λ ls. VarsFit tables vars ls) (sym start) bound_args;
          held = no_local;
        } in
        let body : EndFits tables (Since tables s) (result_at (in_method tables k j)) (all_go_on (stmts_of m.0.body)) (break_in (stmts_of m.0.body)) false b.end [] (act_all (in_state src calls at) (stmts_of m.0.body) vars w n)
        = stmts_fit tables (in_state src calls at) (Since tables s) j around_method puts_fit (stmts_of m.0.body) false (begun (locals_at_start (sig_at tables k j))) b.end [] vars w n b.goes raises ready p in
        let given : GivesFit (Since tables s) (Fits tables (result_at (in_method tables k j))) (result_of (act_all (in_state src calls at) (stmts_of m.0.body) vars w n))
        = result_fits tables (Since tables s) (result_at (in_method tables k j)) (all_go_on (stmts_of m.0.body)) (break_in (stmts_of m.0.body)) b.end [] (act_all (in_state src calls at) (stmts_of m.0.body) vars w n) b.ends body in
        let is_method : slice_get (methods_of src k) j ≡ Some m.0 = ap (λ ds. slice_get ds j) (methods_here names program accepted.rules.classes k c.0 c.1) ∙ m.1 in
        subst (λ o. GivesFit (Since tables s) (Fits tables sig.result) (run_body (in_state src calls at) o args w n)) (sym is_method)
        (subst (λ t. GivesFit (Since tables s) (Fits tables t) (result_of (act_all (in_state src calls at) (stmts_of m.0.body) vars w n))) result given)

  enter_fits : (calls : Calls World) → ((s : State) → CallsFit tables (Since tables s) calls) → (s : State) (at : Key) (j : ℕ) (args : List Value) (w : World) (n : ℕ) → CallFits tables at.0 j args → Since tables s w → GivesFit (Since tables s) (ResultFits tables at.0 j) (enter src calls at j args w n)
  unfolding enter
  enter_fits calls calls_fit s at j args w n h p = by (map.get w.state at) refl
    where
      by : (o : Option (List Value)) → map.get w.state at ≡ o → GivesFit (Since tables s) (ResultFits tables at.0 j) (if_there o (Fell no_entity (reading w at) n) (run_body (in_state src calls at) (slice_get (methods_of src at.0) j) args (reading w at) n))
      by None e = fell (failure_fits no_entity (omega arith) (omega arith)) (since_read tables s w at p)
      by (Some fields) e = fit_world (Since tables w.state) (Since tables s) (ResultFits tables at.0 j) _ (λ v q. since_on tables s w v p q)
          (fit_more (Since tables w.state) (Fits tables h.sig.result) (ResultFits tables at.0 j) _ (method_fits w.state calls (calls_fit w.state) at fields e h.table h.has_table j h.sig args (reading w at) n h.has_method h.fit (since_start tables w at p.fits))
          (λ v f. record { table = h.table; has_table = h.has_table; sig = h.sig; has_method = h.has_method; fits = f }))

  -- Creations

  made_fits : (s : State) (at : Key) (w : World) (P : List Value → Type 0) (Told : Type 0) (g : Gives (List Value) Value) → ((fields : List Value) → P fields → RecordFits tables at.0 fields) → Since tables s w → Makes (λ fields. P fields × Told) g → GivesFit (Since tables s) (λ v. (v ≡ entity at) × Told) (made at w g)
  made_fits s at w P Told (Got v fields n) h p (makes f) = got (refl, f.1) (since_written tables s w at fields p (h fields f.0))
  made_fits s at w P Told (Fell f fields n) h p (breaks_off c) = fell c p

  -- the names that fields of texts are declared from have texts
  abbrev pub TextsTold : ℕ → List Value → Type 0
  TextsTold k args = (name p : ℕ) → slice_get (filter_map (source_in name) (body_of (init_of src k))) 0 ≡ Some p → Fits tables TStr (local_value (bound (params_of (init_of src k)) args) p)

  -- what the rules say of the `__init__` of a class
  pub record InitKnown (k : ℕ) (table : PlainTable) : Type 0 where
    pub members : List PlainMethod
    pub method : PlainMethod
    pub here : init_of src k ≡ Some method
    pub is_body : fields_of method.body ≡ table.fields
    pub body : init_body_fault names program members method.body ≡ None
    pub after : Way
    pub flows : flow_all (in_init tables k) (begun (init_locals tables k)) (stmts_of method.body) ≡ Ok after
    pub first_locals : (args : List Value) → EachFits tables (param_types table.init) args → VarsFit tables (bound method.params args) (init_locals tables k)

  pub init_known : (k : ℕ) (table : PlainTable) → HasTable tables k table → InitKnown k table
  unfolding class_fault whole_fault init_among table_of fields_of init_body_fault
  init_known k table has = record {
    members = c.0.members;
    method = m.0;
    here = ap (λ o. init_among names (members_of o)) c.1 ∙ m.1;
    is_body = ap (λ o. fields_of (body_of o)) (sym m.1) ∙ ap (λ (u : PlainTable). u.fields) c.2;
    body = body_kept names program accepted.rules.classes accepted.rules.flow k i.0 c.0 m.0 c.1 i.2 is_the_init;
    after = flows.0;
    flows = flows.1;
    first_locals = λ args fit. subst (λ ls. VarsFit tables (bound m.0.params args) ls) first_is (bound_fits tables program m.0.params args params (subst (λ ps. EachFits tables (param_types ps) args) (sym is_params) fit));
  }
    where
      c : (c : PlainClass) × (slice_get program k ≡ Some c) × (table_of names c ≡ table)
      c = class_at names program accepted.rules.classes k table has

      init : Option PlainMethod
      init = init_among names c.0.members

      no_init : Option RuleFault
      no_init = broken InitForm c.0.place (is_none init)

      class_fine : class_fault names program c.0 ≡ None
      class_fine = class_kept names program k c.0 accepted.rules.classes c.1

      whole : whole_fault names c.0 ≡ None
      whole = head_none (whole_fault names c.0) [] (rest_none (first_in (member_fault names program c.0.members) c.0.members) (whole_fault names c.0 ∷ []) class_fine)

      m : (m : PlainMethod) × (init ≡ Some m)
      m = is_some_of init (not_broken InitForm c.0.place (is_none init) (head_none no_init (key_fault c.0.place (key_method names c.0.members) (key_of names c.0.members) ∷ []) whole))

      i : (i : ℕ) × (position (λ (d : PlainMethod). is_init names d.name) c.0.members ≡ Some i) × (slice_get c.0.members i ≡ Some m.0)
      i = found_at (λ (d : PlainMethod). is_init names d.name) c.0.members m.0 m.1

      is_the_init : is_init names m.0.name ≡ true
      is_the_init = found_passes (λ (d : PlainMethod). is_init names d.name) c.0.members m.0 m.1

      params : first_in (param_fault program) m.0.params ≡ None
      params = params_kept names program accepted.rules.classes accepted.rules.flow k i.0 c.0 m.0 c.1 i.2

      flows : (after : Way) × (flow_all (in_init tables k) (begun (init_locals tables k)) (stmts_of m.0.body) ≡ Ok after)
      flows = subst (λ o. (after : Way) × (flow_all (in_init tables k) (begun (init_locals tables k)) (stmts_of (body_of o)) ≡ Ok after)) m.1 (init_flows names program accepted.rules.classes accepted.rules.flow k c.0 c.1)

      is_params : sig_params m.0.params ≡ table.init
      is_params = ap (λ o. sig_params (params_of o)) (sym m.1) ∙ ap (λ (u : PlainTable). u.init) c.2

      first_is : over param_local (sig_params m.0.params) ≡ init_locals tables k
      first_is = ap (over param_local) is_params ∙ sym (ap (λ o. unwrap_or (option_map (λ (t : PlainTable). over param_local t.init) o) []) has)

  -- `__init__` makes a record that fits its class
  pub record_made_fits : (at : Key) (args : List Value) (n : ℕ) → NewFits tables at.0 args
      → Makes (λ fields. RecordFits tables at.0 fields × TextsTold at.0 args) (declare_all src at (body_of (init_of src at.0)) (bound (params_of (init_of src at.0)) args) [] n)
  unfolding fields_of init_body_fault
  record_made_fits at args n h =
      let i : InitKnown at.0 h.table = init_known at.0 h.table h.has_table in
      subst (λ o. Makes (λ fields. RecordFits tables at.0 fields × ((name p : ℕ) → slice_get (filter_map (source_in name) (body_of o)) 0 ≡ Some p → Fits tables TStr (local_value (bound (params_of o) args) p))) (declare_all src at (body_of o) (bound (params_of o) args) [] n)) (sym i.here)
      (makes_so _ _ (declare_all src at i.method.body (bound i.method.params args) [] n)
      (λ fields fit. (record { table = h.table; has_table = h.has_table; fit = subst (λ fs. EachFits tables (over (λ (f : PlainField). f.ty) fs) fields) i.is_body fit.0 }, fit.1))
      (declared_fit names program accepted.rules.classes at h.table i.method.body h.has_table i.is_body i.members i.method.body [] (begun (init_locals tables at.0)) i.after (bound i.method.params args) [] n refl i.body i.flows (i.first_locals args h.fit) no_value))

  pub create_fits : (s : State) (at : Key) (args : List Value) (w : World) (n : ℕ) → NewFits tables at.0 args → Since tables s w → GivesFit (Since tables s) (λ v. (v ≡ entity at) × TextsTold at.0 args) (create src at args w n)
  unfolding create
  create_fits s at args w n h p = by (map.get w.state at)
    where
      by : (o : Option (List Value)) → GivesFit (Since tables s) (λ v. (v ≡ entity at) × TextsTold at.0 args) (if_there o (made at (reading w at) (declare_all src at (body_of (init_of src at.0)) (bound (params_of (init_of src at.0)) args) [] n)) (Fell already_exists (reading w at) n))
      by None = made_fits s at (reading w at) (RecordFits tables at.0) (TextsTold at.0 args) (declare_all src at (body_of (init_of src at.0)) (bound (params_of (init_of src at.0)) args) [] n) (λ fields fit. fit) (since_read tables s w at p) (record_made_fits at args n h)
      by (Some fields) = fell (failure_fits already_exists (omega arith) (omega arith)) (since_read tables s w at p)

  new_fits : (s : State) (class : ℕ) (args : List Value) (w : World) (n : ℕ) → NewFits tables class args → Since tables s w → GivesFit (Since tables s) (MadeFits tables class) (create src (new_key src class args) args w n)
  new_fits s class args w n h p = fit_more (Since tables s) (λ v. (v ≡ entity (new_key src class args)) × TextsTold class args) (MadeFits tables class) _ (create_fits s (new_key src class args) args w n h p)
      (λ v e. record { table = h.table; has_table = h.has_table; fits = subst (λ u. Fits tables (TEntity h.table.name) u) (sym e.0) (entity_fits _ h.has_table) })

  -- All calls

  step_fits : {A : Type 0} (s : State) (P : A → Type 0) (w : World) (n : ℕ) (k : ℕ → Gives World A) → Since tables s w → ((n : ℕ) → GivesFit (Since tables s) P (k n)) → GivesFit (Since tables s) P (step n (Fell step_limit w n) k)
  step_fits s P w zero k p h = fell (failure_fits step_limit (omega arith) (omega arith)) p
  step_fits s P w (suc n) k p h = h n

  pub calls_keep : (d : ℕ) (s : State) → CallsFit tables (Since tables s) (calls_at src d)
  unfolding calls_at
  calls_keep zero s = record {
    call = λ at j args w n h p. step_fits s _ w n _ p (λ n. fell (failure_fits recursion_error (omega arith) (omega arith)) p);
    make = λ class args w n h p. step_fits s _ w n _ p (λ n. fell (failure_fits recursion_error (omega arith) (omega arith)) p);
  }
  calls_keep (suc d) s = record {
    call = λ at j args w n h p. step_fits s _ w n _ p (λ n. enter_fits (calls_at src d) (calls_keep d) s at j args w n h p);
    make = λ class args w n h p. step_fits s _ w n _ p (λ n. new_fits s class args w n h p);
  }

  -- a creation gives the entity of its key, which is a text
  pub make_creates : (d : ℕ) (s : State) (class : ℕ) (args : List Value) (w : World) (n : ℕ) → NewFits tables class args → Since tables s w → GivesFit (Since tables s) (λ v. (v ≡ entity (new_key src class args)) × TextsTold class args) ((calls_at src d).make class args w n)
  unfolding calls_at
  make_creates zero s class args w n h p = step_fits s _ w n _ p (λ n. fell (failure_fits recursion_error (omega arith) (omega arith)) p)
  make_creates (suc d) s class args w n h p = step_fits s _ w n _ p (λ n. create_fits s (new_key src class args) args w n h p)
