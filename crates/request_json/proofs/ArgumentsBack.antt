-- Arguments that are passed are read back as the values that they are.
use Rattle.std.proofs.Common.{◌≡◌, suc, ℤ, Bool, true, false, true≢false, ◌||◌, List, [], ◌∷◌, length, Option, Some, None, refl, sym, ap, ◌∙◌, subst, if◌then◌else◌}
use Rattle.std.proofs.Math.Path.{transport}
use Rattle.std.specs.Prelude.{ℕ, is_some, slice_get}
use Rattle.std.specs.Option.{option_map}
use Rattle.std.specs.Str.{chars, encode_utf8_all}
use Rattle.std.proofs.lemmas.Str.{chars-encodes}
use Rattle.serde_json.specs.Data.{Data, depth}
use Rattle.serde_json.specs.Find.{as_null}
use Rattle.py_tree.specs.PlainTypes.{PlainTy, TInt, TBool, TStr, TNil, TList, TOptional, TEntity, PlainWritten}
use Rattle.py_tree.specs.PlainProgram.{PlainParam, PlainClass, PlainProgram}
use Rattle.py_tree.specs.ClassRules.{PlainTable, written_or_none, sig_params, table_of, tables_of, program_fault}
use Rattle.py_tree.specs.Flow.{flow_fault}
use Rattle.sf_value.specs.declared.value.Value.{Value}
use Rattle.sf_value.specs.declared.value.Value.TheVariants as value
use Rattle.byte_sizes.specs.Spelt.{IsReal, AreReal}
use Rattle.byte_sizes.proofs.Layers.{real-List}
use Rattle.program_meaning.specs.ClassTables.{Source}
use Rattle.program_meaning.specs.Fits.{HasTable, Fits, int, bool, str, nil, list, none, some, entity, AllFit, empty, more, EachFits, no_value, one_more, param_types}
use Rattle.program_meaning.proofs.NamesApart.{place_at, classes_distinct}
use Rattle.program_meaning.proofs.TableFacts.{class_at}
use Rattle.request_json.specs.Arguments.{◌>>?◌, each_of, class_named, value_of, arg_of, args_of}
use Rattle.request_json.specs.ReplyLines.{is_short}
use Rattle.request_json.specs.RequestLines.{length_of}
use Rattle.request_json.specs.RequestTexts.{is_natural, passed_int, passed_data, passed_items}
use Rattle.request_json.proofs.FloatLaws.{number_if}
use Rattle.request_json.proofs.PassedInts.{passed_back}
use Rattle.request_json.proofs.PlainValues.{int_is, bool_is, str_is, nil_is, list_is, entity_is}

-- ---- ints are neither null nor nested

either_flat : (z : ℤ) (b : Bool) → depth (number_if b z) ≡ 0
either_flat z true = refl
either_flat z false = refl

pub passed_flat : (z : ℤ) → depth (passed_int z) ≡ 0
passed_flat z = either_flat z (is_short z || is_natural z)

either_some : (z : ℤ) (b : Bool) → is_some (as_null (number_if b z)) ≡ false
either_some z true = refl
either_some z false = refl

-- ---- null is None alone

no_null : {A : Type 0} {d e : Data} → d ≡ e → is_some (as_null e) ≡ false → is_some (as_null d) ≡ true → A
no_null same never is = absurd (true≢false (sym is ∙ ap (λ x. is_some (as_null x)) same ∙ never))

null_is_none : {tables : List PlainTable} {ty : PlainTy} {v : Value} → Fits tables ty v → is_some (as_null (passed_data v)) ≡ true → v ≡ value.Nil
null_is_none (int z) null = no_null (int_is passed_int z) (either_some z (is_short z || is_natural z)) null
null_is_none (bool b) null = no_null (bool_is passed_int b) refl null
null_is_none (str text) null = no_null (str_is passed_int text) refl null
null_is_none nil null = refl
null_is_none (list {vs = vs} all) null = no_null (list_is passed_int vs) refl null
null_is_none none null = refl
null_is_none (some fits) null = null_is_none fits null
null_is_none (entity at has) null = no_null (entity_is passed_int at) refl null

-- ---- as many arguments as values

pub items_count : (vs : List Value) → length_of (passed_items vs) ≡ length vs
items_count [] = refl
items_count (v ∷ vs) = ap suc (items_count vs)

pub fitting_count : {tables : List PlainTable} (ps : List PlainParam) {vs : List Value} → EachFits tables (param_types (sig_params ps)) vs → length vs ≡ length ps
fitting_count [] no_value = refl
fitting_count (p ∷ ps) (one_more fits others) = ap suc (fitting_count ps others)

-- each parameter says its type
abbrev pub AreTyped : List PlainParam → Type 0
AreTyped [] = Unit {0}
AreTyped (p ∷ ps) = (is_some p.ty ≡ true) × AreTyped ps

-- ---- values of an accepted program

module _ (names : List (List ℕ)) (program : PlainProgram) (kept : program_fault names program ≡ None) (flows : flow_fault names program ≡ None) where
  abbrev src : Source
  src = record { program = program; names = names }

  abbrev tables : List PlainTable
  tables = tables_of names program

  -- the name of a class leads to its number
  class_back : (class : ℕ) (t : PlainTable) → HasTable tables class t → class_named src t.name ≡ Some class
  unfolding table_of
  class_back class t has =
      let c : (c : PlainClass) × (slice_get program class ≡ Some c) × (table_of names c ≡ t) = class_at names program kept class t has in
      subst (λ name. class_named src name ≡ Some class) (ap (λ (u : PlainTable). u.name) c.2)
      (place_at (λ (c : PlainClass). c.name) program class c.0 (classes_distinct names program kept flows) c.1)

  optional_back : (inner : PlainTy) (v : Value) → Fits tables inner v → value_of src inner (passed_data v) ≡ Some v → value_of src (TOptional inner) (passed_data v) ≡ Some v
  optional_back inner v fits back = by (is_some (as_null (passed_data v))) (null_is_none fits)
    where
      by : (null : Bool) → (null ≡ true → v ≡ value.Nil) → (if null then Some value.Nil else value_of src inner (passed_data v)) ≡ Some v
      by true is = ap Some (sym (is refl))
      by false is = back

  mutual
    unfolding IsReal

    value_back : {ty : PlainTy} {v : Value} → Fits tables ty v → IsReal v → value_of src ty (passed_data v) ≡ Some v
    value_back (int z) real = ap (value_of src TInt) (int_is passed_int z) ∙ ap (option_map value.Int) (passed_back z real)
    value_back (bool b) real = ap (value_of src TBool) (bool_is passed_int b)
    value_back (str text) real = ap (value_of src TStr) (str_is passed_int text) ∙ ap (λ t. Some (value.Str t)) (chars-encodes text real)
    value_back nil real = ap (value_of src TNil) (nil_is passed_int)
    value_back (list {element = element} {vs = vs} all) real =
        ap (value_of src (TList element)) (list_is passed_int vs) ∙ ap (option_map value.List) (each_back all (transport (real-List vs) real))
    value_back (none {inner = inner}) real = ap (value_of src (TOptional inner)) (nil_is passed_int)
    value_back (some {inner = inner} {v = v} fits) real = optional_back inner v fits (value_back fits real)
    value_back (entity {t = t} at has) real =
        ap (value_of src (TEntity t.name)) (entity_is passed_int at)
        ∙ ap (λ o. o >>? λ class. Some (value.Entity (record { class = class; key = chars (encode_utf8_all at.key) }))) (class_back at.class t has)
        ∙ ap (λ key. Some (value.Entity (record { class = at.class; key = key }))) (chars-encodes at.key real.1)

    each_back : {element : PlainTy} {vs : List Value} → AllFit tables element vs → AreReal vs → each_of (value_of src element) (passed_items vs) ≡ Some vs
    each_back empty real = refl
    each_back {element = element} (more {v = v} {vs = vs} fits all) real =
        ap (λ o. o >>? λ x. each_of (value_of src element) (passed_items vs) >>? λ xs. Some (x ∷ xs)) (value_back fits real.0)
        ∙ ap (λ o. o >>? λ xs. Some (v ∷ xs)) (each_back all real.1)

  arg_back : (ty : Option PlainWritten) (v : Value) → is_some ty ≡ true → Fits tables (written_or_none ty) v → IsReal v → arg_of src ty (passed_data v) ≡ Some v
  arg_back None v typed fits real = absurd (true≢false (sym typed))
  arg_back (Some ty) v typed fits real = value_back fits real

  pub args_back : (ps : List PlainParam) {vs : List Value} → AreTyped ps → EachFits tables (param_types (sig_params ps)) vs → AreReal vs → args_of src ps (passed_items vs) ≡ Some vs
  unfolding args_of
  args_back [] typed no_value real = refl
  args_back (p ∷ ps) typed (one_more {v = v} {vs = vs} fits others) real =
      ap (λ o. o >>? λ x. args_of src ps (passed_items vs) >>? λ xs. Some (x ∷ xs)) (arg_back p.ty v typed.0 fits real.0)
      ∙ ap (λ o. o >>? λ xs. Some (v ∷ xs)) (args_back ps typed.1 others real.1)
