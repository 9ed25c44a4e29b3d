-- A run of an accepted program on a state and a request that fit.
use Rattle.std.proofs.Common.{◌≡◌, ℕ, arith, Bool, true, false, cond, Option, Some, None, List, [], ◌∷◌, unwrap_or, refl, sym, ap, ◌∙◌, subst}
use Rattle.std.specs.Prelude.{option_map, slice_get, option_and_then, is_none, filter_map}
use Rattle.std.specs.FinSet as set
use Rattle.std.proofs.lemmas.Option.{none-some}
use Rattle.py_tree.specs.declared.names.Place.{Place}
use Rattle.py_tree.specs.declared.rule.Rule.TheVariants.{InitForm, KeyForm}
use Rattle.py_tree.specs.declared.rule.RuleFault.{RuleFault}
use Rattle.py_tree.specs.PlainTypes.{TStr}
use Rattle.py_tree.specs.PlainProgram.{PlainMethod, PlainClass, PlainProgram}
use Rattle.py_tree.specs.ClassRules.{PlainKey, PlainTable, broken, first_in, class_fault, whole_fault, member_fault, init_of as init_among, key_method, key_of, key_told, key_or_first, key_fault, params_of, body_of, source_in, sig_params, table_of, tables_of}
use Rattle.program_meaning.specs.NothingGoesWrong.{IsKnownAccepted}
use Rattle.py_tree.proofs.ClassRuleLaws.{head_none, rest_none, not_broken, class_kept}
use Rattle.sf_value.specs.declared.value.Value.{Value}
use Rattle.sf_value.specs.declared.value.Value.TheVariants as value
use Rattle.sf_value.specs.declared.Act.{Act}
use Rattle.sf_value.specs.declared.Act.TheVariants as act
use Rattle.sf_value.specs.declared.Outcome.TheVariants as outcome
use Rattle.program_meaning.specs.ClassTables.{Source, members_of, init_of, key_param_of}
use Rattle.program_meaning.specs.World.{State, World, Gives, Got, Fell, local_value, size_limit, value_at}
use Rattle.program_meaning.specs.Operations.{text_of}
use Rattle.program_meaning.specs.Evaluation.{entity}
use Rattle.program_meaning.specs.Calls.{bound, new_key}
use Rattle.program_meaning.specs.RequestRun.{Ran, steps_at_first, depth_limit, at_first, is_too_heavy, begin, ended, run}
use Rattle.program_meaning.specs.Fits.{Fits, EachFits, param_types, StateFits, NewFits, ActFits, IsCreated, AnswerFits, OutcomeFits}
use Rattle.program_meaning.specs.PointFits.{GivesFit, got, fell, Since, HasValue}
use Rattle.program_meaning.proofs.FitsLaws.{as_str}
use Rattle.program_meaning.proofs.LocalsFit.{value_is}
use Rattle.program_meaning.proofs.ValuesFit.{failure_fits}
use Rattle.program_meaning.proofs.EvalFits.{fit_more}
use Rattle.program_meaning.proofs.TableFacts.{class_at}
use Rattle.program_meaning.proofs.KeyFacts.{bound_value, KeyStands, key_stands}
use Rattle.program_meaning.proofs.CallsFit.{calls_keep, make_creates, TextsTold, is_some_of}

key_there : (place : Place) (o : Option PlainMethod) (key : Option PlainKey) → key_fault place o key ≡ None → (m : PlainMethod) × (k : PlainKey) × (o ≡ Some m) × (key ≡ Some k)
key_there place None key none = absurd (none-some _ (sym none))
key_there place (Some m) key none =
    let k : (k : PlainKey) × (key ≡ Some k) = is_some_of key (not_broken KeyForm m.place (is_none key) none) in
    (m, k.0, refl, k.1)

module _ (names : List (List ℕ)) (program : PlainProgram) (accepted : IsKnownAccepted names program) where
  abbrev src : Source
  src = record { program = program; names = names }

  abbrev tables : List PlainTable
  tables = tables_of names program

  -- the entity that a creation gives is told by an argument
  created_is : (class : ℕ) (args : List Value) (v : Value) → NewFits tables class args → v ≡ entity (new_key src class args) → TextsTold names program accepted class args → IsCreated tables class args v
  unfolding class_fault whole_fault key_of init_among table_of
  created_is class args v h is told =
      let c : (c : PlainClass) × (slice_get program class ≡ Some c) × (table_of names c ≡ h.table) = class_at names program accepted.rules.classes class h.table h.has_table in
      let members : List PlainMethod = c.0.members in
      let init : Option PlainMethod = init_among names members in
      let no_init : Option RuleFault = broken InitForm c.0.place (is_none init) in
      let no_key : Option RuleFault = key_fault c.0.place (key_method names members) (key_of names members) in
      let class_fine : class_fault names program c.0 ≡ None = class_kept names program class c.0 accepted.rules.classes c.1 in
      let whole : whole_fault names c.0 ≡ None = head_none (whole_fault names c.0) [] (rest_none (first_in (member_fault names program members) members) (whole_fault names c.0 ∷ []) class_fine) in
      let i : (i : PlainMethod) × (init ≡ Some i) = is_some_of init (not_broken InitForm c.0.place (is_none init) (head_none no_init (no_key ∷ []) whole)) in
      let k : (m : PlainMethod) × (key : PlainKey) × (key_method names members ≡ Some m) × (key_of names members ≡ Some key) = key_there c.0.place (key_method names members) (key_of names members) (head_none no_key [] (rest_none no_init (no_key ∷ []) whole)) in
      let among : key_told k.0 (params_of init) (body_of init) ≡ Some k.1 = sym (ap (option_and_then (λ method. key_told method (params_of init) (body_of init))) k.2) ∙ k.3 in
      let stands : KeyStands i.0 k.1.param = key_stands i.0 k.0 k.1 (sym (ap (λ o. key_told k.0 (params_of o) (body_of o)) i.1) ∙ among) in
      let here : init_of src class ≡ Some i.0 = ap (λ o. init_among names (members_of o)) c.1 ∙ i.1 in
      let meant : key_param_of src class ≡ Some k.1.param = ap (λ o. option_map (λ (u : PlainKey). u.param) (key_of names (members_of o))) c.1 ∙ ap (option_map (λ (u : PlainKey). u.param)) k.3 in
      let is_params : h.table.init ≡ sig_params i.0.params = ap (λ (u : PlainTable). u.init) (sym c.2) ∙ ap (λ o. sig_params (params_of o)) i.1 in
      let u : (u : Value) × (slice_get args k.1.param ≡ Some u) × HasValue (bound i.0.params args) stands.param u = bound_value tables i.0.params args stands.param k.1.param (subst (λ ps. EachFits tables (param_types ps) args) is_params h.fit) stands.at in
      let texts : Fits tables TStr (local_value (bound (params_of (init_of src class)) args) stands.param) = told stands.field stands.param (ap (λ o. slice_get (filter_map (source_in stands.field) (body_of o)) 0) here ∙ stands.source) in
      let text_here : Fits tables TStr u.0 = subst (λ w. Fits tables TStr w) (value_is (bound i.0.params args) stands.param u.0 u.2) (subst (λ o. Fits tables TStr (local_value (bound (params_of o) args) stands.param)) here texts) in
      let text : (text : List ℕ) × (u.0 ≡ value.Str text) = as_str tables u.0 text_here in
      let in_table : h.table.key_param ≡ k.1.param = ap (λ (t : PlainTable). t.key_param) (sym c.2) ∙ ap (λ o. (key_or_first o).param) k.3 in
      let read : value_at args (key_param_of src class) ≡ value.Str text.0 = ap (value_at args) meant ∙ ap (λ o. unwrap_or o value.Nil) u.1 ∙ text.1 in
      record {
        table = h.table;
        has_table = h.has_table;
        key = text.0;
        has_key = ap (slice_get args) in_table ∙ u.1 ∙ ap Some text.1;
        is = is ∙ ap (λ w. value.Entity (record { class = class; key = text_of w })) read;
      }

  start_fits : (s : State) → StateFits tables s → Since tables s (at_first s)
  start_fits s fit = record { fits = fit; kept = λ q a e. (a, e) }

  begin_fits : (s : State) (asked : Act) → StateFits tables s → ActFits tables asked → GivesFit (Since tables s) (AnswerFits tables asked) (begin src asked s)
  unfolding begin
  begin_fits s (act.Call class key method args) fit h = (calls_keep names program accepted depth_limit s).call (class, key) method args (at_first s) steps_at_first h (start_fits s fit)
  begin_fits s (act.New class args) fit h =
      fit_more (Since tables s) (λ v. (v ≡ entity (new_key src class args)) × TextsTold names program accepted class args) (IsCreated tables class args) _
      (make_creates names program accepted depth_limit s class args (at_first s) steps_at_first h (start_fits s fit))
      (λ v e. created_is class args v h e.0 e.1)

  ended_fits : (s : State) (asked : Act) (g : Gives World Value) → StateFits tables s → GivesFit (Since tables s) (AnswerFits tables asked) g → StateFits tables (ended s g).state × OutcomeFits tables asked (ended s g).outcome
  ended_fits s asked (Got v w n) fit (got a p) = (p.fits, a)
  ended_fits s asked (Fell f w n) fit (fell c p) = (fit, c)

  pub run_fits : (s : State) (asked : Act) → StateFits tables s → ActFits tables asked → StateFits tables (run src s asked).state × OutcomeFits tables asked (run src s asked).outcome
  unfolding run
  run_fits s asked fit h = by (is_too_heavy asked)
    where
      heavy : Ran
      heavy = record { outcome = outcome.Failed size_limit; state = s; reads = set.empty; writes = set.empty; steps = steps_at_first }

      by : (b : Bool) → StateFits tables (cond b heavy (ended s (begin src asked s))).state × OutcomeFits tables asked (cond b heavy (ended s (begin src asked s))).outcome
      by true = (fit, failure_fits size_limit (omega arith) (omega arith))
      by false = ended_fits s asked (begin src asked s) fit (begin_fits s asked fit h)
