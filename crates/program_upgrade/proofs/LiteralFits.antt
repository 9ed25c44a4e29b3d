-- A literal is a value of the type that a field is declared with, and the fields that a class is given have values that fit.
use Rattle.std.proofs.Common.{◌≡◌, ℕ, zero, suc, ℤ, Bool, true, false, cond, Option, Some, None, Ok, Err, Result, List, [], ◌∷◌, ◌++◌, map as over, drop, refl, sym, ap, ◌∙◌, subst}
use Rattle.std.specs.Prelude.{option_map, option_and_then, filter_map, is_some, if◌then◌else◌, pos, ◌-ℤ◌, nat_le}
use Rattle.std.specs.List.{AllByRecursion, cons_option}
use Rattle.std.proofs.lemmas.Option.{none-some, same_Some}
use Rattle.py_tree.specs.declared.names.Place.{Place}
use Rattle.py_tree.specs.declared.names.PlacedName.{PlacedName}
use Rattle.py_tree.specs.declared.rule.RuleFault.{RuleFault}
use Rattle.py_tree.specs.declared.stmt.Target.TheVariants.{Local, Field}
use Rattle.py_tree.specs.PlainTypes.{PlainTy, TInt, TBool, TStr, TNil, TList, PlainWritten, type_of as type_written}
use Rattle.py_tree.specs.PlainExpressions.{PlainExpr, PInt, PBool, PStr, PNil, PNeg, PList, PNoExpr, PExpr}
use Rattle.py_tree.specs.PlainStatements.{PlainStmt, PAssign, PAssert, stmts_of}
use Rattle.py_tree.specs.PlainProgram.{PlainMethod, PlainProgram}
use Rattle.py_tree.specs.ClassRules.{PlainField, PlainTable, Declaration, declaration, field_declared, fields_of, field_names, first_behind, init_stmt_fault, init_body_fault, body_of, tables_of}
use Rattle.py_tree.specs.FlowEnvironment.{PlainLocal}
use Rattle.py_tree.specs.ExpressionTypes.{type_of, type_of_empty, element_wanted, with_found, assignable}
use Rattle.py_tree.specs.Reachability.{goes_on}
use Rattle.py_tree.specs.Flow.{Context, type_at, value_as, assigned, field_declared as declared_type, Way, on, begun, flow, flow_all, in_init, init_locals}
use Rattle.py_tree.proofs.ClassRuleLaws.{head_none, rest_none}
use Rattle.sf_value.specs.Weight.{weight_of}
use Rattle.sf_value.specs.declared.Failure.{Failure}
use Rattle.sf_value.specs.declared.value.Value.{Value}
use Rattle.sf_value.specs.declared.value.Value.TheVariants as value
use Rattle.program_meaning.specs.ClassTables.{Source, init_of}
use Rattle.program_meaning.specs.Fits.{HasTable, Fits, int, bool, str, nil, list, empty, EachFits, no_value, one_more}
use Rattle.program_meaning.specs.NothingGoesWrong.{IsKnownAccepted}
use Rattle.program_meaning.specs.Operations.{in_range, fits}
use Rattle.program_meaning.specs.World.{overflow_error}
use Rattle.program_meaning.proofs.FitsLaws.{fits_wider}
use Rattle.program_meaning.proofs.FlowGrows.{all_parts}
use Rattle.program_meaning.proofs.FlowParts.{value_ok}
use Rattle.program_meaning.proofs.TableFacts.{then_found}
use Rattle.program_meaning.proofs.TypedParts.{same_ok, err_ok, found_ok}
use Rattle.program_meaning.proofs.InitFits.{IsInitStmt, declares, asserts, init_stmt}
use Rattle.program_meaning.proofs.CallsFit.{InitKnown, init_known}
use Rattle.program_upgrade.specs.Defaults.{given, negative, literal, unless_heavy, default, defaults, declared_values, defaults_behind}

-- ---- literals

given_int : (z : ℤ) (b : Bool) (v : Value) → given (if b then Ok (value.Int z) else Err overflow_error) ≡ Some v → value.Int z ≡ v
given_int z true v h = same_Some (value.Int z) v h
given_int z false v h = absurd (none-some v h)

in_range_int : (z : ℤ) (v : Value) → given (in_range z) ≡ Some v → value.Int z ≡ v
unfolding in_range
in_range_int z v h = given_int z (fits z) v h

module _ (c : Context) (locals : List PlainLocal) (wanted : PlainTy) (names : List (List ℕ)) where
  -- this type and this value are the ones
  at_type : (s t : PlainTy) (v w : Value) → Fits c.tables s v → s ≡ t → v ≡ w → Fits c.tables t w
  at_type s t v w fit same is = subst (λ u. Fits c.tables u w) same (subst (λ x. Fits c.tables s x) is fit)

  pub literal_fits : (e : PlainExpr) (ty : PlainTy) (v : Value) → type_at c locals (Some wanted) e ≡ Ok ty → literal names e ≡ Some v → Fits c.tables ty v
  unfolding type_of
  literal_fits (PInt at n) ty v h is = at_type TInt ty (value.Int n) v (int n) (same_ok TInt ty h) (same_Some (value.Int n) v is)
  literal_fits (PNeg at (PInt number_at n)) ty v h is = at_type TInt ty (value.Int (pos 0 -ℤ n)) v (int (pos 0 -ℤ n)) (same_ok TInt ty h) (in_range_int (pos 0 -ℤ n) v is)
  literal_fits (PBool at b) ty v h is = at_type TBool ty (value.Bool b) v (bool b) (same_ok TBool ty h) (same_Some (value.Bool b) v is)
  literal_fits (PStr at text) ty v h is = at_type TStr ty _ v (str _) (same_ok TStr ty h) (same_Some _ v is)
  literal_fits (PNil at) ty v h is = at_type TNil ty value.Nil v nil (same_ok TNil ty h) (same_Some value.Nil v is)
  literal_fits (PList at PNoExpr) ty v h is = by (element_wanted wanted) h
    where
      by : (o : Option PlainTy) → type_of_empty o at ≡ Ok ty → Fits c.tables ty v
      by None h = absurd (err_ok _ ty h)
      by (Some element) h = at_type (TList element) ty (value.List []) v (list empty) (same_ok (TList element) ty h) (same_Some (value.List []) v is)
  literal_fits _ ty v h is = absurd (none-some v is)

-- ---- defaults

light_itself : (x v : Value) (b : Bool) → (if b then Some x else None) ≡ Some v → x ≡ v
light_itself x v true h = same_Some x v h
light_itself x v false h = absurd (none-some v h)

default_literal : (names : List (List ℕ)) (e : PlainExpr) (v : Value) → default names e ≡ Some v → literal names e ≡ Some v
unfolding default
default_literal names e v h =
    let a : (x : Value) × (literal names e ≡ Some x) × (unless_heavy x ≡ Some v) = then_found unless_heavy (literal names e) v h in
    a.1 ∙ ap Some (light_itself a.0 v (nat_le (weight_of a.0) 65536) a.2)

abbrev pub declarations : List PlainStmt → List Declaration
declarations body = filter_map declaration body

pub fields_declared : (body : List PlainStmt) → fields_of body ≡ over field_declared (declarations body)
unfolding fields_of
fields_declared [] = refl
fields_declared (s ∷ body) = by (declaration s) (fields_declared body)
  where
    by : (o : Option Declaration) → fields_of body ≡ over field_declared (declarations body) → cons_option (option_map field_declared o) (fields_of body) ≡ over field_declared (cons_option o (declarations body))
    by None e = e
    by (Some d) e = ap (λ fs. field_declared d ∷ fs) e

pub values_declared : (body : List PlainStmt) → declared_values body ≡ over (λ (d : Declaration). d.value) (declarations body)
unfolding declared_values
values_declared [] = refl
values_declared (s ∷ body) = by (declaration s) (values_declared body)
  where
    by : (o : Option Declaration) → declared_values body ≡ over (λ (d : Declaration). d.value) (declarations body) → cons_option (option_map (λ (d : Declaration). d.value) o) (declared_values body) ≡ over (λ (d : Declaration). d.value) (cons_option o (declarations body))
    by None e = e
    by (Some d) e = ap (λ es. d.value ∷ es) e

module _ (tables : List PlainTable) (names : List (List ℕ)) where
  -- the default of a declaration fits its type
  pub record DefaultFits (d : Declaration) : Type 0 where
    pub fits : (v : Value) → default names d.value ≡ Some v → Fits tables (type_written d.ty) v

  abbrev pub types_of : List Declaration → List PlainTy
  types_of ds = over (λ (f : PlainField). f.ty) (over field_declared ds)

  abbrev pub values_of : List Declaration → List PlainExpr
  values_of ds = over (λ (d : Declaration). d.value) ds

  all_fit : (ds : List Declaration) (vs : List Value) → AllByRecursion DefaultFits ds → defaults names (values_of ds) ≡ Some vs → EachFits tables (types_of ds) vs
  unfolding defaults
  all_fit [] vs all h = subst (λ us. EachFits tables [] us) (same_Some [] vs h) no_value
  all_fit (d ∷ ds) vs all h = by (default names d.value) (defaults names (values_of ds)) refl (λ us more. all_fit ds us all.1 more) h
    where
      by : (o : Option Value) (rest : Option (List Value)) → default names d.value ≡ o → ((us : List Value) → rest ≡ Some us → EachFits tables (types_of ds) us) → option_and_then (λ v. option_map (λ vs. v ∷ vs) rest) o ≡ Some vs → EachFits tables (types_of (d ∷ ds)) vs
      by None rest one more h = absurd (none-some vs h)
      by (Some v) None one more h = absurd (none-some vs h)
      by (Some v) (Some us) one more h = subst (λ ws. EachFits tables (types_of (d ∷ ds)) ws) (same_Some (v ∷ us) vs h) (one_more (all.0.fits v one) (more us refl))

  pub defaults_fit : (ds : List Declaration) (n : ℕ) (vs : List Value) → AllByRecursion DefaultFits ds → defaults names (drop n (values_of ds)) ≡ Some vs → EachFits tables (over (λ (f : PlainField). f.ty) (drop n (over field_declared ds))) vs
  defaults_fit ds zero vs all h = all_fit ds vs all h
  defaults_fit [] (suc n) vs all h = all_fit [] vs all h
  defaults_fit (d ∷ ds) (suc n) vs all h = defaults_fit ds n vs all.1 h

-- ---- what an accepted program declares

module _ (names : List (List ℕ)) (program : PlainProgram) (known : IsKnownAccepted names program) where
  abbrev tables : List PlainTable
  tables = tables_of names program

  abbrev src : Source
  src = record { program = program; names = names }

  module _ (class : ℕ) (members : List PlainMethod) where
    abbrev ctx : Context
    ctx = in_init tables class

    declared_fits : (w mid : Way) (at : Place) (f : PlacedName) (ty : PlainWritten) (e : PlainExpr) → flow ctx w (PAssign at (Field f) (Some ty) e) ≡ Ok mid → DefaultFits tables names (record { field = f; ty = ty; value = e })
    unfolding flow assigned declared_type
    declared_fits w mid at f ty e h =
        let then_on : List PlainLocal → Result Way RuleFault = λ locals. Ok (on w locals) in
        let declared : Result (List PlainLocal) RuleFault = with_found (value_as ctx w.locals (type_written ty) e) (λ given. Ok w.locals) in
        let a : (locals : List PlainLocal) × (declared ≡ Ok locals) × (then_on locals ≡ Ok mid) = found_ok declared then_on mid h in
        let b : (given : PlainTy) × (value_as ctx w.locals (type_written ty) e ≡ Ok given) × (_ ≡ Ok a.0) = found_ok (value_as ctx w.locals (type_written ty) e) (λ given. Ok w.locals) a.0 a.1 in
        let q : (type_at ctx w.locals (Some (type_written ty)) e ≡ Ok b.0) × (assignable b.0 (type_written ty) ≡ true) = value_ok ctx w.locals (type_written ty) e b.0 b.1 in
        record { fits = λ v is. fits_wider tables b.0 (type_written ty) v q.1 (literal_fits ctx w.locals (type_written ty) names e b.0 v q.0 (default_literal names e v is)) }

    abbrev faults : List PlainStmt → PlainStmt → Option RuleFault
    faults before s = init_stmt_fault names program members (field_names before) s

    -- a declaration and an assert go on
    declares_on : (at : Place) (f : PlacedName) (ty : PlainWritten) (e : PlainExpr) (rest other : Result Way RuleFault) (after : Way) → cond (goes_on (PAssign at (Field f) (Some ty) e)) rest other ≡ Ok after → rest ≡ Ok after
    unfolding goes_on
    declares_on at f ty e rest other after h = h

    asserts_on : (at : Place) (test : PlainExpr) (e : Option PlainExpr) (rest other : Result Way RuleFault) (after : Way) → cond (goes_on (PAssert at test e)) rest other ≡ Ok after → rest ≡ Ok after
    unfolding goes_on
    asserts_on at test e rest other after h = h

    no_faults : (body : List PlainStmt) → init_body_fault names program members body ≡ None → first_behind faults [] body ≡ None
    unfolding init_body_fault
    no_faults body none = none

    all_declared : (before body : List PlainStmt) (w after : Way) → first_behind faults before body ≡ None → flow_all ctx w (stmts_of body) ≡ Ok after → AllByRecursion (DefaultFits tables names) (declarations body)
    all_declared before [] w after none h = tt
    all_declared before (s ∷ body) w after none h =
        let others : Option RuleFault = first_behind faults (before ++ s ∷ []) body in
        let now : faults before s ≡ None = head_none (faults before s) (others ∷ []) none in
        let later : others ≡ None = head_none others [] (rest_none (faults before s) (others ∷ []) none) in
        let a : (mid : Way) × (flow ctx w s ≡ Ok mid) × (cond (goes_on s) (flow_all ctx mid (stmts_of body)) (Ok mid) ≡ Ok after) = all_parts ctx w after s (stmts_of body) h in
        one s a.0 (init_stmt names program members (field_names before) s now) a.1 a.2 (λ go. all_declared (before ++ s ∷ []) body a.0 after later go)
      where
        one : (s : PlainStmt) (mid : Way) → IsInitStmt program (field_names before) s → flow ctx w s ≡ Ok mid → cond (goes_on s) (flow_all ctx mid (stmts_of body)) (Ok mid) ≡ Ok after
            → (flow_all ctx mid (stmts_of body) ≡ Ok after → AllByRecursion (DefaultFits tables names) (declarations body)) → AllByRecursion (DefaultFits tables names) (declarations (s ∷ body))
        one _ mid (declares {at = at} {f = f} {ty = ty} {e = e} free) h on rest = (declared_fits w mid at f ty e h, rest (declares_on at f ty e _ _ after on))
        one _ mid (asserts {at = at} {test = test} {e = e} free quiet) h on rest = rest (asserts_on at test e _ _ after on)

  -- the values of added fields fit their types
  pub added_fit : (class : ℕ) (table : PlainTable) (count : ℕ) (values : List Value) → HasTable tables class table → defaults_behind src class count ≡ Some values
      → EachFits tables (over (λ (f : PlainField). f.ty) (drop count table.fields)) values
  added_fit class table count values has gives =
      let i : InitKnown names program known class table = init_known names program known class table has in
      let body : List PlainStmt = i.method.body in
      let fields : table.fields ≡ over field_declared (declarations body) = sym i.is_body ∙ fields_declared body in
      let exprs : defaults names (drop count (over (λ (d : Declaration). d.value) (declarations body))) ≡ Some values = ap (λ es. defaults names (drop count es)) (sym (values_declared body)) ∙ ap (λ o. defaults names (drop count (declared_values (body_of o)))) (sym i.here) ∙ gives in
      subst (λ fs. EachFits tables (over (λ (f : PlainField). f.ty) (drop count fs)) values) (sym fields)
      (defaults_fit tables names (declarations body) count values (all_declared class i.members [] body (begun (init_locals tables class)) i.after (no_faults class i.members body i.body) i.flows) exprs)
