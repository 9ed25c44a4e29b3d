-- What a line asks fits its program: its arguments are of the types that the parameters declare.
use Rattle.std.proofs.Common.{◌≡◌, ◌∙◌, ℕ, suc, Bool, true, false, cond, List, [], ◌∷◌, length, Option, Some, None, Ok, Err, if◌then◌else◌, refl, sym, ap, subst, arith}
use Rattle.std.specs.Prelude.{position, slice_get, codes, nat_eq, ◌==◌, is_some}
use Rattle.std.specs.declared.result.Result.{Result}
use Rattle.std.specs.Str.{chars}
use Rattle.std.specs.Option.{option_map, ok_or}
use Rattle.std.specs.List.{position_from}
use Rattle.std.proofs.lemmas.Bool.Decides.{Decides-eqb}
use Rattle.std.proofs.lemmas.Bool.Decides.{nat_tests}
use Rattle.std.proofs.lemmas.Option.{same_Some, none-some, slice_get-map}
use Rattle.serde_json.specs.Data.{Data, Items, no_items, item}
use Rattle.serde_json.specs.Find.{as_null, as_bool, as_str, as_array}
use Rattle.py_tree.specs.NameTable.{place_of}
use Rattle.py_tree.specs.Acceptance.{class_number, method_named, method_number}
use Rattle.py_tree.proofs.CheckedLaws.{named_class}
use Rattle.py_tree.specs.PlainTypes.{PlainTy, TInt, TBool, TStr, TNil, TList, TOptional, TEntity, PlainWritten, type_of}
use Rattle.py_tree.specs.PlainProgram.{PlainParam, PlainMethod, PlainClass, PlainProgram}
use Rattle.py_tree.specs.ClassRules.{PlainTable, methods_of as methods_among, init_of as init_among, params_of, written_or_none, sig_params, sig_of, table_of, tables_of}
use Rattle.sf_value.specs.declared.value.Value.{Value}
use Rattle.sf_value.specs.declared.value.Value.TheVariants as value
use Rattle.sf_value.specs.declared.Request.{Request}
use Rattle.program_meaning.specs.ClassTables.{Source, members_of, methods_of, init_of}
use Rattle.program_meaning.specs.Fits.{HasTable, Fits, int, bool, str, nil, list, none, some, entity, AllFit, empty, more, EachFits, no_value, one_more, param_types, CallFits, NewFits}
use Rattle.program_meaning.proofs.TableFacts.{map_found, then_found}
use Rattle.program_meaning.proofs.Places.{position_is, position_of_more}
use Rattle.request_json.specs.declared.fault.LineFault.{LineFault}
use Rattle.request_json.specs.declared.fault.LineFault.TheVariants.{NotJson, NotRequest, UnknownClass, UnknownMethod, ArgumentCount, ArgumentType}
use Rattle.request_json.specs.Arguments.{◌>>?◌, int_of, each_of, class_named, value_of, arg_of, args_of}
use Rattle.request_json.specs.RequestLines.{◌>>=◌, length_of, is_id, id_of, text_at, id_in, text_in, array_in, class_of, method_of as method_in, arguments_of, call_of, creation_of, has_keys, call_keys, creation_keys, of_data, data_of, reading_of}
use Rattle.request_history.specs.SoundHistory.{IdFits, RequestFits}

-- what goes on had something to go on with
pub then_some : {A B : Type 0} (o : Option A) (f : A → Option B) (y : B) → (o >>? f) ≡ Some y → (x : A) × (o ≡ Some x) × (f x ≡ Some y)
then_some None f y is = absurd (none-some y is)
then_some (Some x) f y is = (x, refl, is)

pub then_ok : {A B : Type 0} (o : Result A LineFault) (f : A → Result B LineFault) (y : B) → (o >>= f) ≡ Ok y → (x : A) × (o ≡ Ok x) × (f x ≡ Ok y)
then_ok (Err fault) f y is = absurd cc
then_ok (Ok x) f y is = (x, refl, is)

pub found : {A : Type 0} (o : Option A) (fault : LineFault) (x : A) → ok_or o fault ≡ Ok x → o ≡ Some x
found None fault x is = absurd cc
found (Some y) fault x is = cc

-- what is there only where a test passes
pub where_true : {A : Type 0} (b : Bool) (o : Option A) (y : A) → (if b then o else None) ≡ Some y → (b ≡ true) × (o ≡ Some y)
where_true true o y is = (refl, is)
where_true false o y is = absurd (none-some y is)

-- the place at which something is found passes the test
stands_at : {A : Type 0} (p : A → Bool) (xs : List A) (n : ℕ) → position p xs ≡ Some n → (x : A) × (slice_get xs n ≡ Some x) × (p x ≡ true)
stands_at p [] n e = absurd (none-some n (sym (position_is p []) ∙ e))
stands_at p (x ∷ xs) n e = by (p x) refl (sym (position_of_more p x xs) ∙ e) (stands_at p xs)
  where
    by : (b : Bool) → p x ≡ b → cond b (Some 0) (option_map suc (position p xs)) ≡ Some n → ((m : ℕ) → position p xs ≡ Some m → (y : _) × (slice_get xs m ≡ Some y) × (p y ≡ true)) → (y : _) × (slice_get (x ∷ xs) n ≡ Some y) × (p y ≡ true)
    by true passes e later = (x, subst (λ k. slice_get (x ∷ xs) k ≡ Some x) (same_Some 0 n e) refl, passes)
    by false fails e later =
        let m = map_found suc (position p xs) n e in
        let y = later m.0 m.1 in
        (y.0, subst (λ k. slice_get (x ∷ xs) k ≡ Some y.0) m.2 y.1, y.2)

pub stands_from : {A : Type 0} (p : A → Bool) (xs : List A) (n : ℕ) → position_from p 0 xs ≡ Some n → (x : A) × (slice_get xs n ≡ Some x) × (p x ≡ true)
stands_from p xs n e = stands_at p xs n (position_is p xs ∙ e)

same_number : (a b : ℕ) → (a == b) ≡ true → a ≡ b
same_number a b h = (Decides-eqb a b).0 h

id_fits : (id : List ℕ) → is_id id ≡ true → IdFits id
id_fits id is = record { some = grind (arith, nat_tests); few = grind (arith, nat_tests) }

pub same_Ok : {A : Type 0} (x y : A) → ◌≡◌ {A = Result A LineFault} (Ok x) (Ok y) → x ≡ y
same_Ok x y is = cc

pub passed : (src : Source) (ps : List PlainParam) (ds : Items) (vs : List Value) → arguments_of src ps ds ≡ Ok vs → args_of src ps ds ≡ Some vs
passed src ps ds vs = by (nat_eq (length_of ds) (length ps))
  where
    by : (b : Bool) → (if b then ok_or (args_of src ps ds) ArgumentType else Err ArgumentCount) ≡ Ok vs → args_of src ps ds ≡ Some vs
    by true is = found (args_of src ps ds) ArgumentType vs is
    by false is = absurd cc

module _ (names : List (List ℕ)) (program : PlainProgram) where
  abbrev src : Source
  src = record { program = program; names = names }

  abbrev tables : List PlainTable
  tables = tables_of names program

  has_table : (class : ℕ) (c : PlainClass) → slice_get program class ≡ Some c → HasTable tables class (table_of names c)
  has_table class c is = slice_get-map (table_of names) program class ∙ ap (option_map (table_of names)) is

  entity_fits : (name class : ℕ) (key : List ℕ) → class_named src name ≡ Some class → Fits tables (TEntity name) (value.Entity (record { class = class; key = key }))
  unfolding table_of
  entity_fits name class key is =
      let c = stands_from (λ (c : PlainClass). c.name == name) program class is in
      subst (λ n. Fits tables (TEntity n) (value.Entity (record { class = class; key = key }))) (same_number c.0.name name c.2) (entity (record { class = class; key = key }) (has_table class c.0 c.1))

  each_fits : (element : PlainTy) → ((d : Data) (v : Value) → value_of src element d ≡ Some v → Fits tables element v) → (ds : Items) (vs : List Value) → each_of (value_of src element) ds ≡ Some vs → AllFit tables element vs
  each_fits element fits no_items vs is = subst (AllFit tables element) (same_Some _ _ is) empty
  each_fits element fits (item d ds) vs is =
      let first = then_some (value_of src element d) _ vs is in
      let rest = then_some (each_of (value_of src element) ds) _ vs first.2 in
      subst (AllFit tables element) (same_Some _ _ rest.2) (more (fits d first.0 first.1) (each_fits element fits ds rest.0 rest.1))

  value_fits : (ty : PlainTy) (d : Data) (v : Value) → value_of src ty d ≡ Some v → Fits tables ty v
  value_fits TInt d v is = let n = map_found value.Int (int_of d) v is in subst (Fits tables TInt) n.2 (int n.0)
  value_fits TBool d v is = let b = map_found value.Bool (as_bool d) v is in subst (Fits tables TBool) b.2 (bool b.0)
  value_fits TStr d v is = let text = map_found (λ text. value.Str (chars text)) (as_str d) v is in subst (Fits tables TStr) text.2 (str (chars text.0))
  value_fits TNil d v is = let none = map_found (λ _. value.Nil) (as_null d) v is in subst (Fits tables TNil) none.2 nil
  value_fits (TList element) d v is =
      let vs = map_found value.List (as_array d >>? each_of (value_of src element)) v is in
      let ds = then_some (as_array d) (each_of (value_of src element)) vs.0 vs.1 in
      subst (Fits tables (TList element)) vs.2 (list (each_fits element (value_fits element) ds.0 vs.0 ds.2))
  value_fits (TOptional inner) d v is = by (is_some (as_null d)) is (value_fits inner d v)
    where
      by : (b : Bool) → (if b then Some value.Nil else value_of src inner d) ≡ Some v → (value_of src inner d ≡ Some v → Fits tables inner v) → Fits tables (TOptional inner) v
      by true is fits = subst (Fits tables (TOptional inner)) (same_Some _ _ is) none
      by false is fits = some (fits is)
  value_fits (TEntity name) d v is =
      let class = then_some (class_named src name) _ v is in
      let key = map_found (λ key. value.Entity (record { class = class.0; key = chars key })) (as_str d) v class.2 in
      subst (Fits tables (TEntity name)) key.2 (entity_fits name class.0 (chars key.0) class.1)

  arg_fits : (ty : Option PlainWritten) (d : Data) (v : Value) → arg_of src ty d ≡ Some v → Fits tables (written_or_none ty) v
  arg_fits None d v is = absurd (none-some v is)
  arg_fits (Some ty) d v is = value_fits (type_of ty) d v is

  args_fit : (ps : List PlainParam) (ds : Items) (vs : List Value) → args_of src ps ds ≡ Some vs → EachFits tables (param_types (sig_params ps)) vs
  unfolding args_of
  args_fit [] no_items vs is = subst (EachFits tables []) (same_Some _ _ is) no_value
  args_fit [] (item d ds) vs is = absurd (none-some vs is)
  args_fit (p ∷ ps) no_items vs is = absurd (none-some vs is)
  args_fit (p ∷ ps) (item d ds) vs is =
      let first = then_some (arg_of src p.ty d) _ vs is in
      let rest = then_some (args_of src ps ds) _ vs first.2 in
      subst (EachFits tables (param_types (sig_params (p ∷ ps)))) (same_Some _ _ rest.2) (one_more (arg_fits p.ty d first.0 first.1) (args_fit ps ds rest.0 rest.1))

  call_fits : (class number : ℕ) (name : List ℕ) (ds : Items) (vs : List Value) → method_number names program class name ≡ Some number
      → args_of src (params_of (slice_get (methods_of src class) number)) ds ≡ Some vs → CallFits tables class number vs
  unfolding table_of
  call_fits class number text ds vs named args =
      let name = then_found (λ name. method_named names program class name) (place_of names text) number named in
      let c = named_class names program class name.0 number name.2 in
      let m = stands_from (λ (m : PlainMethod). m.name == name.0) (methods_among names c.0.members) number c.2 in
      let at : slice_get (methods_of src class) number ≡ Some m.0 = ap (λ o. slice_get (methods_among names (members_of o)) number) c.1 ∙ m.1 in
      record {
        table = table_of names c.0;
        has_table = has_table class c.0 c.1;
        sig = sig_of m.0;
        has_method = slice_get-map sig_of (methods_among names c.0.members) number ∙ ap (option_map sig_of) m.1;
        fit = args_fit m.0.params ds vs (subst (λ o. args_of src (params_of o) ds ≡ Some vs) at args);
      }

  creation_fits : (class : ℕ) (name : List ℕ) (ds : Items) (vs : List Value) → class_number names program name ≡ Some class → args_of src (params_of (init_of src class)) ds ≡ Some vs → NewFits tables class vs
  unfolding table_of
  creation_fits class text ds vs named args =
      let name = then_found (λ name. position_from (λ c. c.name == name) 0 program) (place_of names text) class named in
      let c = stands_from (λ (c : PlainClass). c.name == name.0) program class name.2 in
      record {
        table = table_of names c.0;
        has_table = has_table class c.0 c.1;
        fit = args_fit (params_of (init_among names c.0.members)) ds vs (subst (λ o. args_of src (params_of (init_among names (members_of o))) ds ≡ Some vs) c.1 args);
      }

  pub id_is : (d : Data) (id : List ℕ) → id_in d ≡ Ok id → IdFits id
  id_is d id is =
      let text = then_some (text_at (codes "id") d) id_of id (found (text_at (codes "id") d >>? id_of) NotRequest id is) in
      let kept = where_true (is_id (chars text.0)) (Some (chars text.0)) id text.2 in
      subst IdFits (same_Some _ _ kept.1) (id_fits (chars text.0) kept.0)

  asked_call : (d : Data) (r : Request) → call_of src d ≡ Ok r → RequestFits tables r
  asked_call d r is =
      let id = then_ok (id_in d) _ r is in
      let class_name = then_ok (text_in (codes "class") d) _ r id.2 in
      let key = then_ok (text_in (codes "key") d) _ r class_name.2 in
      let method_name = then_ok (text_in (codes "method") d) _ r key.2 in
      let items = then_ok (array_in (codes "args") d) _ r method_name.2 in
      let class = then_ok (class_of src class_name.0) _ r items.2 in
      let method = then_ok (method_in src class.0 method_name.0) _ r class.2 in
      let args = then_ok (arguments_of src (params_of (slice_get (methods_of src class.0) method.0)) items.0) _ r method.2 in
      let named = found (method_number names program class.0 method_name.0) UnknownMethod method.0 method.1 in
      subst (RequestFits tables) (same_Ok _ r args.2) (record { id = id_is d id.0 id.1; act = call_fits class.0 method.0 method_name.0 items.0 args.0 named (passed src _ items.0 args.0 args.1) })

  asked_creation : (d : Data) (r : Request) → creation_of src d ≡ Ok r → RequestFits tables r
  asked_creation d r is =
      let id = then_ok (id_in d) _ r is in
      let class_name = then_ok (text_in (codes "class") d) _ r id.2 in
      let items = then_ok (array_in (codes "new") d) _ r class_name.2 in
      let class = then_ok (class_of src class_name.0) _ r items.2 in
      let args = then_ok (arguments_of src (params_of (init_of src class.0)) items.0) _ r class.2 in
      let named = found (class_number names program class_name.0) UnknownClass class.0 class.1 in
      subst (RequestFits tables) (same_Ok _ r args.2) (record { id = id_is d id.0 id.1; act = creation_fits class.0 class_name.0 items.0 args.0 named (passed src _ items.0 args.0 args.1) })

  asked : (d : Data) (r : Request) → of_data src d ≡ Ok r → RequestFits tables r
  asked d r = by (has_keys call_keys d) (has_keys creation_keys d)
    where
      by : (calls makes : Bool) → (if calls then call_of src d else (if makes then creation_of src d else Err NotRequest)) ≡ Ok r → RequestFits tables r
      by true makes is = asked_call d r is
      by false true is = asked_creation d r is
      by false false is = absurd cc

  pub reading_fits : (line : List ℕ) (r : Request) → reading_of src line ≡ Ok r → RequestFits tables r
  reading_fits line r is = let d = then_ok (ok_or (data_of line) NotJson) (of_data src) r is in asked d.0 r d.2
