-- The text of a request is that request again.
use Rattle.std.proofs.Common.{◌≡◌, ℕ, zero, suc, Bool, true, false, ◌==◌, ◌<◌, ◌≤◌, List, [], ◌∷◌, length, Option, Some, None, Result, Ok, Err, refl, sym, ap, ◌∙◌, subst, arith, if◌then◌else◌}
use Rattle.std.proofs.Math.Bridge.{le_prop}
use Rattle.std.proofs.Math.Logic.{∥∥₁_elim, ∥∥₁_map}
use Rattle.std.specs.Prelude.{slice_get, codes, IfSome, option_and_then}
use Rattle.std.specs.Str.{chars, encode_utf8_all, IsUtf8}
use Rattle.std.specs.Str.Lossy.{utf8_valid_len}
use Rattle.std.specs.Option.{ok_or}
use Rattle.std.specs.List.{position_from}
use Rattle.std.proofs.lemmas.Bool.{eq-eqb}
use Rattle.std.proofs.lemmas.Str.{chars-encodes, utf8_valid_len-IsUtf8, IsUtf8-from_is_utf8}
use Rattle.json.proofs.Printed.Utf8.{IsUtf8-are_ascii}
use Rattle.serde_json.specs.Data.{Data, Items, depth, items_depth}
use Rattle.serde_json.specs.Read.{read, max_depth}
use Rattle.serde_json.specs.Written.{compact_text}
use Rattle.py_tree.specs.NameTable.{place_of}
use Rattle.py_tree.specs.PlainProgram.{PlainParam, PlainMethod, PlainClass, PlainProgram}
use Rattle.py_tree.specs.Bounded.{IsBoundedClass, IsBoundedMethod}
use Rattle.py_tree.specs.ClassRules.{PlainTable, PlainSig, program_fault, text_of, params_of, sig_params, sig_of, methods_of as methods_among, init_of as init_among, table_of, tables_of}
use Rattle.py_tree.specs.Acceptance.{method_named}
use Rattle.sf_value.specs.declared.value.Value.{Value}
use Rattle.sf_value.specs.declared.Act.{Act}
use Rattle.sf_value.specs.declared.Act.TheVariants as act
use Rattle.sf_value.specs.declared.Request.{Request}
use Rattle.byte_sizes.specs.Spelt.{IsRealText, AreReal, IsRealAct, IsRealRequest}
use Rattle.program_meaning.specs.ClassTables.{Source, members_of, methods_of, init_of}
use Rattle.program_meaning.specs.Fits.{EachFits, param_types, CallFits, NewFits, ActFits}
use Rattle.program_meaning.specs.NothingGoesWrong.{IsKnownAccepted}
use Rattle.program_meaning.proofs.NamesApart.{distinct, place_at, classes_distinct, methods_distinct}
use Rattle.program_meaning.proofs.TableFacts.{class_at, all_at, mapped_at}
use Rattle.request_history.specs.SoundHistory.{IdFits, RequestFits}
use Rattle.json_texts.specs.PlainData.{IsPlain, ArePlain}
use Rattle.json_texts.proofs.ReadBack.{read_again}
use Rattle.json_texts.proofs.TextBytes.{text_utf8}
use Rattle.request_json.specs.declared.fault.LineFault.{LineFault}
use Rattle.request_json.specs.declared.fault.LineFault.TheVariants.{NotJson, NotRequest, UnknownClass, UnknownMethod, ArgumentCount, ArgumentType}
use Rattle.request_json.specs.Arguments.{args_of}
use Rattle.request_json.specs.RequestLines.{◌>>=◌, is_id, id_of, class_of, method_of, arguments_of, of_data, data_of, reading_of}
use Rattle.request_json.specs.RequestTexts.{passed_int, passed_items, class_text, method_text, class_called, method_called, call_data, creation_data, asked_data, request_data, request_text}
use Rattle.request_json.proofs.ArgumentsBack.{passed_flat, items_count, fitting_count, AreTyped, args_back}
use Rattle.request_json.proofs.BoundedParts.{bounded_method, bounded_init}
use Rattle.request_json.proofs.IntLaws.{each, le_test}
use Rattle.request_json.proofs.PassedInts.{passed_plain}
use Rattle.request_json.proofs.PlainValues.{values_plain, each_flat}
use Rattle.request_json.proofs.TypedParams.{flat_method, method_typed, init_typed}

-- ---- from text to data

data_back : (d : Data) → IsPlain d → depth d ≤ max_depth → data_of (compact_text d) ≡ Some d
data_back d plain shallow =
    let text = compact_text d in
    ap (λ b. if b then read text else None) (eq-eqb _ _ (utf8_valid_len-IsUtf8 text (text_utf8 d plain))) ∙ read_again d plain shallow

real_utf8 : (text : List ℕ) → IsRealText text → IsUtf8 (encode_utf8_all text)
real_utf8 text real = (text, (real, refl))

pub call_plain : (id class key method : List ℕ) (args : Items) → IsUtf8 id → IsUtf8 class → IsUtf8 key → IsUtf8 method → ArePlain args → IsPlain (call_data id class key method args)
call_plain id class key method args i c k m a =
    (refl, (IsUtf8-are_ascii (codes "args") refl, a, (IsUtf8-are_ascii (codes "class") refl, c, (IsUtf8-are_ascii (codes "id") refl, i, (IsUtf8-are_ascii (codes "key") refl, k, (IsUtf8-are_ascii (codes "method") refl, m, tt))))))

pub creation_plain : (id class : List ℕ) (args : Items) → IsUtf8 id → IsUtf8 class → ArePlain args → IsPlain (creation_data id class args)
creation_plain id class args i c a =
    (refl, (IsUtf8-are_ascii (codes "class") refl, c, (IsUtf8-are_ascii (codes "id") refl, i, (IsUtf8-are_ascii (codes "new") refl, a, tt))))

-- ---- from data to request, part by part

abbrev a_call : List ℕ → List ℕ → ℕ → ℕ → List Value → Result Request LineFault
a_call id key class method args = Ok (record { id = id; act = act.Call class key method args })

abbrev a_creation : List ℕ → ℕ → List Value → Result Request LineFault
a_creation id class args = Ok (record { id = id; act = act.New class args })

call_made : (i : Result (List ℕ) LineFault) (c : Result ℕ LineFault) (m : ℕ → Result ℕ LineFault) (a : ℕ → ℕ → Result (List Value) LineFault) (id key' key : List ℕ) (class method : ℕ) (args : List Value)
    → i ≡ Ok id → c ≡ Ok class → m class ≡ Ok method → a class method ≡ Ok args → key' ≡ key
    → (i >>= λ id. c >>= λ class. m class >>= λ method. a class method >>= λ args. a_call id key' class method args) ≡ a_call id key class method args
call_made i c m a id key' key class method args is_id is_class is_method is_args is_key =
    ap (λ o. o >>= λ id. c >>= λ class. m class >>= λ method. a class method >>= λ args. a_call id key' class method args) is_id
    ∙ ap (λ o. o >>= λ class. m class >>= λ method. a class method >>= λ args. a_call id key' class method args) is_class
    ∙ ap (λ o. o >>= λ method. a class method >>= λ args. a_call id key' class method args) is_method
    ∙ ap (λ o. o >>= λ args. a_call id key' class method args) is_args
    ∙ ap (λ k. a_call id k class method args) is_key

creation_made : (i : Result (List ℕ) LineFault) (c : Result ℕ LineFault) (a : ℕ → Result (List Value) LineFault) (id : List ℕ) (class : ℕ) (args : List Value)
    → i ≡ Ok id → c ≡ Ok class → a class ≡ Ok args
    → (i >>= λ id. c >>= λ class. a class >>= λ args. a_creation id class args) ≡ a_creation id class args
creation_made i c a id class args is_id is_class is_args =
    ap (λ o. o >>= λ id. c >>= λ class. a class >>= λ args. a_creation id class args) is_id
    ∙ ap (λ o. o >>= λ class. a class >>= λ args. a_creation id class args) is_class
    ∙ ap (λ o. o >>= λ args. a_creation id class args) is_args

id_back : (id : List ℕ) → IdFits id → IsRealText id → ok_or (id_of (encode_utf8_all id)) NotRequest ≡ Ok id
id_back id fits real =
    ap (λ t. ok_or (if is_id t then Some t else None) NotRequest) (chars-encodes id real)
    ∙ ap (λ b. ok_or (if b then Some id else None) NotRequest) (each _ _ (le_test 1 _ fits.some) (le_test _ 64 fits.few))

-- ---- names

name_there : (names : List (List ℕ)) (n : ℕ) → n < length names → slice_get names n ≡ Some (text_of names n)
unfolding text_of
name_there [] n within = absurd (omega arith)
name_there (x ∷ xs) zero within = refl
name_there (x ∷ xs) (suc n) within = name_there xs n (omega arith)

module _ (names : List (List ℕ)) (program : PlainProgram) (accepted : IsKnownAccepted names program) where
  abbrev src : Source
  src = record { program = program; names = names }

  abbrev tables : List PlainTable
  tables = tables_of names program

  abbrev kept : program_fault names program ≡ None
  kept = accepted.rules.classes

  place_back : (n : ℕ) → n < length names → place_of names (text_of names n) ≡ Some n
  place_back n within = accepted.table.distinct n (text_of names n) (name_there names n within)

  name_utf8 : (n : ℕ) → n < length names → IsUtf8 (text_of names n)
  name_utf8 n within = IsUtf8-from_is_utf8 (text_of names n) (accepted.table.utf8 n (text_of names n) (name_there names n within))

  module _ (class : ℕ) (c : PlainClass) (is : slice_get program class ≡ Some c) where
    class_within : c.name < length names
    class_within = ∥∥₁_elim accepted.bounded le_prop (λ b. (all_at (IsBoundedClass (length names)) program class c b.classes is).named)

    class_back : class_of src (class_called src class) ≡ Ok class
    class_back =
        ap (λ o. class_of src (class_text src o)) is
        ∙ ap (λ o. ok_or (option_and_then (λ name. position_from (λ (c : PlainClass). c.name == name) 0 program) o) UnknownClass) (place_back c.name class_within)
        ∙ ap (λ o. ok_or o UnknownClass) (place_at (λ (c : PlainClass). c.name) program class c (classes_distinct names program kept accepted.rules.flow) is)

    class_utf8 : IsUtf8 (class_called src class)
    class_utf8 = subst (λ o. IsUtf8 (class_text src o)) (sym is) (name_utf8 c.name class_within)

    -- a method of the class, by its number
    module _ (method : ℕ) (m : PlainMethod) (at : slice_get (methods_of src class) method ≡ Some m) where
      method_within : m.name < length names
      method_within = ∥∥₁_elim accepted.bounded le_prop (λ b. (subst (λ o. IfSome o (IsBoundedMethod (length names))) at (bounded_method names program b class method)).named)

      method_back : method_of src class (method_called src class method) ≡ Ok method
      method_back =
          let apart = subst (λ o. distinct (λ (m : PlainMethod). m.name) (methods_among names (members_of o)) ≡ true) (sym is) (methods_distinct names program kept accepted.rules.flow class c is) in
          ap (λ o. method_of src class (method_text src o)) at
          ∙ ap (λ o. ok_or (option_and_then (λ name. method_named names program class name) o) UnknownMethod) (place_back m.name method_within)
          ∙ ap (λ o. ok_or o UnknownMethod) (place_at (λ (m : PlainMethod). m.name) (methods_of src class) method m apart at)

      method_utf8 : IsUtf8 (method_called src class method)
      method_utf8 = subst (λ o. IsUtf8 (method_text src o)) (sym at) (name_utf8 m.name method_within)

  -- ---- arguments

  arguments_back : (ps : List PlainParam) (args : List Value) → AreTyped ps → EachFits tables (param_types (sig_params ps)) args → AreReal args → arguments_of src ps (passed_items args) ≡ Ok args
  arguments_back ps args typed fits real =
      ap (λ b. if b then ok_or (args_of src ps (passed_items args)) ArgumentType else Err ArgumentCount) (eq-eqb _ _ (items_count args ∙ fitting_count ps fits))
      ∙ ap (λ o. ok_or o ArgumentType) (args_back names program kept accepted.rules.flow ps typed fits real)

  flat_args : (m : Option PlainMethod) {args : List Value} → (∥ IfSome m (IsBoundedMethod (length names)) ∥₁) → EachFits tables (param_types (sig_params (params_of m))) args → items_depth (passed_items args) ≤ 63
  flat_args m bounded fits = ∥∥₁_elim bounded le_prop (λ b. each_flat passed_int passed_flat 63 fits (flat_method (length names) m b))

  reads : (d : Data) (r : Request) → IsPlain d → depth d ≤ max_depth → of_data src d ≡ Ok r → reading_of src (compact_text d) ≡ Ok r
  reads d r plain shallow is = ap (λ o. ok_or o NotJson >>= of_data src) (data_back d plain shallow) ∙ is

  -- ---- requests: the data of each are plain, and it is read back from their text

  record IsBack (r : Request) : Type 0 where
    plain : IsPlain (request_data src r)
    back : reading_of src (compact_text (request_data src r)) ≡ Ok r

  shown : (r : Request) → IsPlain (request_data src r) → depth (request_data src r) ≤ max_depth → of_data src (request_data src r) ≡ Ok r → IsBack r
  shown r plain shallow is = record { plain = plain; back = reads (request_data src r) r plain shallow is }

  call_back : (id : List ℕ) (class method : ℕ) (key : List ℕ) (args : List Value) → IdFits id → IsRealText id → CallFits tables class method args → IsRealText key → AreReal args
      → IsBack (record { id = id; act = act.Call class key method args })
  unfolding table_of
  call_back id class method key args id_fits id_real fits key_real real =
      let c = class_at names program kept class fits.table fits.has_table in
      let m = mapped_at sig_of (methods_among names c.0.members) method fits.sig (ap (λ (u : PlainTable). slice_get u.methods method) c.2 ∙ fits.has_method) in
      let at : slice_get (methods_of src class) method ≡ Some m.0 = ap (λ o. slice_get (methods_among names (members_of o)) method) c.1 ∙ m.1 in
      let fit : EachFits tables (param_types (sig_params m.0.params)) args = subst (λ (s : PlainSig). EachFits tables (param_types s.params) args) (sym m.2) fits.fit in
      let bounded = ∥∥₁_map accepted.bounded (λ b. subst (λ o. IfSome o (IsBoundedMethod (length names))) at (bounded_method names program b class method)) in
      let flat : items_depth (passed_items args) ≤ 63 = flat_args (Some m.0) bounded fit in
      let passed = arguments_back m.0.params args (method_typed names program kept class c.0 c.1 method m.0 at) fit real in
      shown (record { id = id; act = act.Call class key method args })
      (call_plain _ _ _ _ _ (real_utf8 id id_real) (class_utf8 class c.0 c.1) (real_utf8 key key_real) (method_utf8 class c.0 c.1 method m.0 at) (values_plain passed_int passed_plain args real))
      (omega (arith, flat))
      (call_made _ _ (λ class'. method_of src class' (method_called src class method)) (λ class' method'. arguments_of src (params_of (slice_get (methods_of src class') method')) (passed_items args)) id _ key class method args
      (id_back id id_fits id_real) (class_back class c.0 c.1) (method_back class c.0 c.1 method m.0 at)
      (subst (λ o. arguments_of src (params_of o) (passed_items args) ≡ Ok args) (sym at) passed) (chars-encodes key key_real))

  creation_back : (id : List ℕ) (class : ℕ) (args : List Value) → IdFits id → IsRealText id → NewFits tables class args → AreReal args
      → IsBack (record { id = id; act = act.New class args })
  unfolding table_of
  creation_back id class args id_fits id_real fits real =
      let c = class_at names program kept class fits.table fits.has_table in
      let here : init_of src class ≡ init_among names c.0.members = ap (λ o. init_among names (members_of o)) c.1 in
      let fit : EachFits tables (param_types (sig_params (params_of (init_of src class)))) args =
      subst (λ o. EachFits tables (param_types (sig_params (params_of o))) args) (sym here) (subst (λ (u : PlainTable). EachFits tables (param_types u.init) args) (sym c.2) fits.fit) in
      let bounded = ∥∥₁_map accepted.bounded (λ b. bounded_init names program b class) in
      let flat : items_depth (passed_items args) ≤ 63 = flat_args (init_of src class) bounded fit in
      shown (record { id = id; act = act.New class args })
      (creation_plain _ _ _ (real_utf8 id id_real) (class_utf8 class c.0 c.1) (values_plain passed_int passed_plain args real))
      (omega (arith, flat))
      (creation_made _ _ (λ class'. arguments_of src (params_of (init_of src class')) (passed_items args)) id class args
      (id_back id id_fits id_real) (class_back class c.0 c.1) (arguments_back (params_of (init_of src class)) args (init_typed names program kept class c.0 c.1) fit real))

  act_back : (id : List ℕ) (asked : Act) → IdFits id → IsRealText id → ActFits tables asked → IsRealAct asked → IsBack (record { id = id; act = asked })
  act_back id (act.Call class key method args) id_fits id_real fits real = call_back id class method key args id_fits id_real fits real.1.0 real.1.1.1
  act_back id (act.New class args) id_fits id_real fits real = creation_back id class args id_fits id_real fits real.1

  pub request_plain : (r : Request) → RequestFits tables r → IsRealRequest r → IsPlain (request_data src r)
  request_plain r fits real = (act_back r.id r.act fits.id real.0 fits.act real.1).plain

  pub request_back : (r : Request) → RequestFits tables r → IsRealRequest r → reading_of src (request_text src r) ≡ Ok r
  unfolding request_text
  request_back r fits real = (act_back r.id r.act fits.id real.0 fits.act real.1).back
