-- What fits an earlier program fits one that follows it.
use Rattle.std.proofs.Common.{◌≡◌, ◌<◌, ◌≤◌, ◌+◌, ℕ, zero, suc, arith, Bool, true, false, Option, Some, None, List, [], ◌∷◌, ◌++◌, length, map as over, drop, refl, sym, ap, ◌∙◌, subst, true≢false}
use Rattle.std.specs.Prelude.{◌&&◌, ◌==◌, option_map, slice_get, slice_index_or, bytes_eq, nat_le, unwrap_or, option_and_then, if◌then◌else◌}
use Rattle.std.specs.FinMap as finite
use Rattle.std.proofs.lemmas.Bool.{eqb-true, leb-true}
use Rattle.std.proofs.lemmas.Option.{none-some, same_Some}
use Rattle.std.proofs.lemmas.Slice.Eq.{bytes_eq-Decides}
use Rattle.py_tree.specs.NameTable.{place_of}
use Rattle.py_tree.specs.PlainTypes.{PlainTy, TInt, TBool, TStr, TNil, TList, TOptional, TEntity}
use Rattle.py_tree.specs.PlainExpressions.{PlainExpr}
use Rattle.py_tree.specs.ClassRules.{PlainField, PlainSigParam, PlainSig, PlainTable, text_of, table_of}
use Rattle.sf_value.specs.Keys.{Key}
use Rattle.sf_value.specs.Weight.{weight_of}
use Rattle.sf_value.specs.declared.Act.{Act}
use Rattle.sf_value.specs.declared.Act.TheVariants as act
use Rattle.sf_value.specs.declared.Entry.{Entry}
use Rattle.sf_value.specs.declared.Outcome.{Outcome}
use Rattle.sf_value.specs.declared.Outcome.TheVariants as outcome
use Rattle.sf_value.specs.declared.Request.{Request}
use Rattle.sf_value.specs.declared.value.Value.{Value}
use Rattle.sf_value.specs.declared.value.Value.TheVariants as value
use Rattle.request_history.specs.SoundHistory.{RequestFits, EntriesFit}
use Rattle.program_meaning.specs.ClassTables.{Source}
use Rattle.program_meaning.specs.Fits.{HasTable, Fits, int, bool, str, nil, list, none, some, entity, AllFit, empty, more, EachFits, no_value, one_more, field_types, param_types, RecordFits, StateFits, CallFits, NewFits, ActFits, ResultFits, IsCreated, AnswerFits, OutcomeFits}
use Rattle.program_meaning.specs.LightValues.{IsLight, AreLight}
use Rattle.program_meaning.specs.LightValues as light
use Rattle.program_meaning.specs.World.{State}
use Rattle.program_meaning.proofs.NamesAreFound.{text_place, class_below}
use Rattle.program_meaning.proofs.TableFacts.{class_at, map_found, then_found}
use Rattle.program_meaning.proofs.TypedParts.{both_true}
use Rattle.program_upgrade.specs.SameParts.{begins, same_list, same_name, same_type, same_field, same_param, same_params, same_method}
use Rattle.program_upgrade.specs.Defaults.{unless_heavy, literal, default, defaults, defaults_behind}
use Rattle.program_upgrade.specs.UpgradeRules.{tables_in, added_from, added_values}
use Rattle.program_upgrade.specs.Mapping.{with_added, upgraded_state}
use Rattle.program_upgrade.specs.UpgradeLaws.{IsUpgrade, RecordsStillFit, StatesStillFit, RequestsStillFit, EntriesStillFit, AddedAreLight}
use Rattle.program_upgrade.proofs.KeptClasses.{Kept, kept_class, class_values}
use Rattle.program_upgrade.proofs.KeptTypes.{TyNames, Named, table_fields, table_params, method_params, method_result}
use Rattle.program_upgrade.proofs.LiteralFits.{added_fit}
use Rattle.program_upgrade.proofs.MappedStates.{get_mapped}

never : {A : Type 0} → false ≡ true → A
never h = absurd (true≢false (sym h))

-- ---- lists of which one begins the other

module _ {A : Type 0} (same : A → A → Bool) where
  pub begun_at : (xs ys : List A) (k : ℕ) (x : A) → begins same xs ys ≡ true → slice_get xs k ≡ Some x → (y : A) × (slice_get ys k ≡ Some y) × (same x y ≡ true)
  begun_at [] ys k x h is = absurd (none-some x is)
  begun_at (a ∷ xs) [] k x h is = never h
  begun_at (a ∷ xs) (b ∷ ys) zero x h is = (b, refl, subst (λ z. same z b ≡ true) (same_Some a x is) (both_true (same a b) (begins same xs ys) h).0)
  begun_at (a ∷ xs) (b ∷ ys) (suc k) x h is = begun_at xs ys k x (both_true (same a b) (begins same xs ys) h).1 is

-- ---- two programs

module _ (old new : Source) (upgrade : IsUpgrade old new) where
  abbrev earlier : List PlainTable
  earlier = tables_in old

  abbrev later : List PlainTable
  later = tables_in new

  abbrev count : ℕ
  count = length new.names

  same_text : (x y : ℕ) → same_name old.names new.names x y ≡ true → text_of old.names x ≡ text_of new.names y
  unfolding same_name
  same_text x y h = (bytes_eq-Decides (text_of old.names x) (text_of new.names y)).0 h

  -- two names of the later program with the text of one of the earlier are one
  one_name : (x y z : ℕ) → y < length new.names → z < length new.names → same_name old.names new.names x y ≡ true → same_name old.names new.names x z ≡ true → y ≡ z
  one_name x y z within inside first second =
      same_Some y z (sym (text_place new.names y upgrade.later.table within) ∙ ap (place_of new.names) (sym (same_text x y first) ∙ same_text x z second) ∙ text_place new.names z upgrade.later.table inside)

  class_named : (class : ℕ) (u : PlainTable) → HasTable later class u → u.name < length new.names
  unfolding table_of
  class_named class u has =
      let c = class_at new.names new.program upgrade.later.rules.classes class u has in
      subst (λ (t : PlainTable). t.name < length new.names) c.2 (class_below new.names new.program upgrade.later class c.0 c.1)

  mutual
    value_kept : {s : PlainTy} {v : Value} → Fits earlier s v → (t : PlainTy) → same_type old.names new.names s t ≡ true → TyNames count t → Fits later t v
    value_kept (int z) TInt same named = int z
    value_kept (int z) _ same named = never same
    value_kept (bool b) TBool same named = bool b
    value_kept (bool b) _ same named = never same
    value_kept (str text) TStr same named = str text
    value_kept (str text) _ same named = never same
    value_kept nil TNil same named = nil
    value_kept nil _ same named = never same
    value_kept (list all) (TList t) same named = list (all_kept all t same named)
    value_kept (list all) _ same named = never same
    value_kept none (TOptional t) same named = none
    value_kept none _ same named = never same
    value_kept (some fit) (TOptional t) same named = some (value_kept fit t same named)
    value_kept (some fit) _ same named = never same
    value_kept (entity {t = table} at has) (TEntity y) same named =
        let kept : Kept old new at.class table = kept_class old new upgrade.follows at.class table has in
        let one : kept.u.name ≡ y = one_name table.name kept.u.name y (class_named at.class kept.u kept.has) named kept.name same in
        subst (λ x. Fits later (TEntity x) (value.Entity at)) one (entity at kept.has)
    value_kept (entity {t = table} at has) _ same named = never same

    all_kept : {s : PlainTy} {vs : List Value} → AllFit earlier s vs → (t : PlainTy) → same_type old.names new.names s t ≡ true → TyNames count t → AllFit later t vs
    all_kept empty t same named = empty
    all_kept (more fit fits) t same named = more (value_kept fit t same named) (all_kept fits t same named)

  -- ---- fields

  fields_kept : (fs gs : List PlainField) (vs ws : List Value) → begins (same_field old.names new.names) fs gs ≡ true → Named (λ (f : PlainField). f.ty) count gs → EachFits earlier (over (λ (f : PlainField). f.ty) fs) vs
      → EachFits later (over (λ (f : PlainField). f.ty) (drop (length fs) gs)) ws → EachFits later (over (λ (f : PlainField). f.ty) gs) (vs ++ ws)
  fields_kept [] gs _ ws same named no_value added = added
  fields_kept (f ∷ fs) [] vs ws same named fit added = never same
  fields_kept (f ∷ fs) (g ∷ gs) _ ws same named (one_more fit fits) added =
      let both = both_true (same_field old.names new.names f g) (begins (same_field old.names new.names) fs gs) same in
      let ty = (both_true (same_name old.names new.names f.name g.name) (same_type old.names new.names f.ty g.ty) both.0).1 in
      one_more (value_kept fit g.ty ty (named 0 g refl)) (fields_kept fs gs _ ws both.1 (λ k h is. named (suc k) h is) fits added)

  pub record_kept : (class : ℕ) (fields : List Value) → RecordFits earlier class fields → RecordFits later class (with_added (added_values old new) class fields)
  record_kept class fields r =
      let kept : Kept old new class r.table = kept_class old new upgrade.follows class r.table r.has_table in
      let begin = (both_true (begins (same_field old.names new.names) r.table.fields kept.u.fields) (r.table.key_field == kept.u.key_field) kept.fields).0 in
      let added = added_fit new.names new.program upgrade.later class kept.u (length r.table.fields) kept.values kept.has kept.given in
      let named = table_fields new.names new.program upgrade.later class kept.u kept.has in
      record {
        table = kept.u;
        has_table = kept.has;
        fit = subst (λ ws. EachFits later (field_types kept.u) (fields ++ ws)) (sym (class_values old new class r.table r.has_table kept)) (fields_kept r.table.fields kept.u.fields fields kept.values begin named r.fit added);
      }

  pub state_kept : (s : State) → StateFits earlier s → StateFits later (upgraded_state old new s)
  state_kept s fit = record {
    each = λ at fields is.
        let a : (x : List Value) × (finite.get s at ≡ Some x) × (with_added (added_values old new) at.0 x ≡ fields) = map_found (with_added (added_values old new) at.0) (finite.get s at) fields (sym (get_mapped (added_values old new) s at) ∙ is) in
        subst (λ fs. RecordFits later at.0 fs) a.2 (record_kept at.0 a.0 (fit.each at a.0 a.1));
  }

  -- ---- requests

  params_kept : (ps qs : List PlainSigParam) (vs : List Value) → length ps ≡ length qs → begins (same_param old.names new.names) ps qs ≡ true → Named (λ (p : PlainSigParam). p.ty) count qs → EachFits earlier (param_types ps) vs → EachFits later (param_types qs) vs
  params_kept [] [] _ many same named no_value = no_value
  params_kept [] (q ∷ qs) vs many same named fit = absurd (omega arith)
  params_kept (p ∷ ps) [] vs many same named fit = never same
  params_kept (p ∷ ps) (q ∷ qs) _ many same named (one_more fit fits) =
      let both = both_true (same_param old.names new.names p q) (begins (same_param old.names new.names) ps qs) same in
      one_more (value_kept fit q.ty both.0 (named 0 q refl)) (params_kept ps qs _ (omega arith) both.1 (λ k h is. named (suc k) h is) fits)

  args_kept : (ps qs : List PlainSigParam) (vs : List Value) → same_params old.names new.names ps qs ≡ true → Named (λ (p : PlainSigParam). p.ty) count qs → EachFits earlier (param_types ps) vs → EachFits later (param_types qs) vs
  args_kept ps qs vs same named fit =
      let both = both_true (length ps == length qs) (begins (same_param old.names new.names) ps qs) same in
      params_kept ps qs vs (eqb-true (length ps) (length qs) both.0) both.1 named fit

  -- a method of the earlier program, and what the later one keeps of it
  record MethodKept (class method : ℕ) (s : PlainSig) : Type 0 where
    u : PlainTable
    has : HasTable later class u
    sig : PlainSig
    is : slice_get u.methods method ≡ Some sig
    params : same_params old.names new.names s.params sig.params ≡ true
    result : same_type old.names new.names s.result sig.result ≡ true

  method_kept : (class method : ℕ) (t : PlainTable) (s : PlainSig) → HasTable earlier class t → slice_get t.methods method ≡ Some s → MethodKept class method s
  method_kept class method t s has is =
      let kept : Kept old new class t = kept_class old new upgrade.follows class t has in
      let a : (m : PlainSig) × (slice_get kept.u.methods method ≡ Some m) × (same_method old.names new.names s m ≡ true) = begun_at (same_method old.names new.names) t.methods kept.u.methods method s kept.methods is in
      let named : Bool = same_name old.names new.names s.name a.0.name in
      let takes : Bool = same_params old.names new.names s.params a.0.params in
      let gives : Bool = same_type old.names new.names s.result a.0.result in
      let outer = both_true (named && takes) gives a.2 in
      record { u = kept.u; has = kept.has; sig = a.0; is = a.1; params = (both_true named takes outer.0).1; result = outer.1 }

  act_kept : (asked : Act) → ActFits earlier asked → ActFits later asked
  act_kept (act.Call class key method args) fit =
      let m : MethodKept class method fit.sig = method_kept class method fit.table fit.sig fit.has_table fit.has_method in
      record { table = m.u; has_table = m.has; sig = m.sig; has_method = m.is; fit = args_kept fit.sig.params m.sig.params args m.params (method_params new.names new.program upgrade.later class m.u m.has method m.sig m.is) fit.fit }
  act_kept (act.New class args) fit =
      let kept : Kept old new class fit.table = kept_class old new upgrade.follows class fit.table fit.has_table in
      let params = (both_true (same_params old.names new.names fit.table.init kept.u.init) (fit.table.key_param == kept.u.key_param) kept.init).0 in
      record { table = kept.u; has_table = kept.has; fit = args_kept fit.table.init kept.u.init args params (table_params new.names new.program upgrade.later class kept.u kept.has) fit.fit }

  pub request_kept : (r : Request) → RequestFits earlier r → RequestFits later r
  request_kept r fit = record { id = fit.id; act = act_kept r.act fit.act }

  answer_kept : (asked : Act) (v : Value) → AnswerFits earlier asked v → AnswerFits later asked v
  answer_kept (act.Call class key method args) v fit =
      let m : MethodKept class method fit.sig = method_kept class method fit.table fit.sig fit.has_table fit.has_method in
      record { table = m.u; has_table = m.has; sig = m.sig; has_method = m.is; fits = value_kept fit.fits m.sig.result m.result (method_result new.names new.program upgrade.later class m.u m.has method m.sig m.is) }
  answer_kept (act.New class args) v fit =
      let kept : Kept old new class fit.table = kept_class old new upgrade.follows class fit.table fit.has_table in
      let place = eqb-true fit.table.key_param kept.u.key_param (both_true (same_params old.names new.names fit.table.init kept.u.init) (fit.table.key_param == kept.u.key_param) kept.init).1 in
      record { table = kept.u; has_table = kept.has; key = fit.key; has_key = ap (slice_get args) (sym place) ∙ fit.has_key; is = fit.is }

  outcome_kept : (asked : Act) (came : Outcome) → OutcomeFits earlier asked came → OutcomeFits later asked came
  outcome_kept asked (outcome.Value v) fit = answer_kept asked v fit
  outcome_kept asked (outcome.Failed f) fit = fit

  pub entries_kept : (entries : List Entry) → EntriesFit earlier entries → EntriesFit later entries
  entries_kept [] fit = tt
  entries_kept (e ∷ entries) fit = (request_kept e.request fit.0, outcome_kept e.request.act e.outcome fit.1, entries_kept entries fit.2)

-- ---- light values

light_here : (x v : Value) (b : Bool) → nat_le (weight_of x) 65536 ≡ b → (if b then Some x else None) ≡ Some v → IsLight v
light_here x v true is h = subst IsLight (same_Some x v h) (record { most = leb-true (weight_of x) 65536 is })
light_here x v false is h = absurd (none-some v h)

default_light : (names : List (List ℕ)) (e : PlainExpr) (v : Value) → default names e ≡ Some v → IsLight v
unfolding default
default_light names e v h =
    let a : (x : Value) × (literal names e ≡ Some x) × (unless_heavy x ≡ Some v) = then_found unless_heavy (literal names e) v h in
    light_here a.0 v (nat_le (weight_of a.0) 65536) refl a.2

defaults_light : (names : List (List ℕ)) (es : List PlainExpr) (vs : List Value) → defaults names es ≡ Some vs → AreLight vs
unfolding defaults
defaults_light names [] vs h = subst AreLight (same_Some [] vs h) light.no_value
defaults_light names (e ∷ es) vs h = by (default names e) (defaults names es) refl (λ us more. defaults_light names es us more) h
  where
    by : (o : Option Value) (rest : Option (List Value)) → default names e ≡ o → ((us : List Value) → rest ≡ Some us → AreLight us) → option_and_then (λ v. option_map (λ vs. v ∷ vs) rest) o ≡ Some vs → AreLight vs
    by None rest one others h = absurd (none-some vs h)
    by (Some v) None one others h = absurd (none-some vs h)
    by (Some v) (Some us) one others h = subst AreLight (same_Some (v ∷ us) vs h) (light.one_more (default_light names e v one) (others us refl))

given_light : (names : List (List ℕ)) (es : List PlainExpr) (o : Option (List Value)) → defaults names es ≡ o → AreLight (unwrap_or o [])
given_light names es None is = light.no_value
given_light names es (Some vs) is = defaults_light names es vs is

added_light : (new : Source) (class : ℕ) (ts : List PlainTable) (k : ℕ) → AreLight (slice_index_or (added_from new class ts) k [])
added_light new class [] zero = light.no_value
added_light new class [] (suc k) = light.no_value
added_light new class (t ∷ ts) zero = given_light new.names _ (defaults_behind new class (length t.fields)) refl
added_light new class (t ∷ ts) (suc k) = added_light new (class + 1) ts k

-- ---- the laws

pub records_still_fit : RecordsStillFit
records_still_fit old new upgrade class fields fit = record_kept old new upgrade class fields fit

pub states_still_fit : StatesStillFit
states_still_fit old new upgrade s fit = state_kept old new upgrade s fit

pub requests_still_fit : RequestsStillFit
requests_still_fit old new upgrade r fit = request_kept old new upgrade r fit

pub entries_still_fit : EntriesStillFit
entries_still_fit old new upgrade entries fit = entries_kept old new upgrade entries fit

pub added_are_light : AddedAreLight
unfolding added_values
added_are_light old new class = added_light new 0 (tables_in old) class
