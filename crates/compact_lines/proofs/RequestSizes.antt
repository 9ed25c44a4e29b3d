-- A request that a line asks is written in no more bytes than the line has.
use Rattle.std.proofs.Common.{◌≡◌, ℕ, zero, suc, ◌+◌, ◌≤◌, Bool, true, false, List, [], ◌∷◌, length, take, take_all, Option, Some, None, Ok, Err, if◌then◌else◌, refl, sym, ap, ◌∙◌, subst, arith}
use Rattle.std.specs.Prelude.{slice_get, codes, bytes_eq, ◌==◌}
use Rattle.std.specs.Option.{ok_or}
use Rattle.std.specs.List.{position_from}
use Rattle.std.specs.Str.{IsUtf8, is_utf8, chars, encode_utf8_all}
use Rattle.std.specs.Str.Lossy.{valid_len_up_to, utf8_valid_len}
use Rattle.std.proofs.lemmas.Bool.Decides.{Decides-eqb}
use Rattle.std.proofs.lemmas.Option.{same_Some, none-some}
use Rattle.std.proofs.lemmas.Slice.Eq.{bytes_eq-Decides}
use Rattle.std.proofs.lemmas.Str.{IsUtf8-nil, IsUtf8-from_is_utf8, encodes-chars}
use Rattle.serde_json.specs.Data.{Data, null, boolean, number, string, array, object, Items, Members, no_members, member}
use Rattle.serde_json.specs.Find.{get_member, as_str, as_array}
use Rattle.serde_json.specs.Read.{read}
use Rattle.serde_json.specs.Written.{compact_text}
use Rattle.py_tree.specs.PlainProgram.{PlainMethod, PlainClass, PlainProgram}
use Rattle.py_tree.specs.Acceptance.{class_number, method_named, method_number}
use Rattle.py_tree.specs.NameTable.{place_of}
use Rattle.py_tree.specs.ClassRules.{text_of, params_of, methods_of as methods_among}
use Rattle.py_tree.proofs.CheckedLaws.{named_class}
use Rattle.sf_value.specs.declared.Act.TheVariants as act
use Rattle.sf_value.specs.declared.Request.{Request}
use Rattle.program_meaning.specs.ClassTables.{Source, members_of, methods_of, init_of}
use Rattle.program_meaning.proofs.Places.{position_is}
use Rattle.program_meaning.proofs.TableFacts.{then_found}
use Rattle.request_json.specs.declared.fault.LineFault.TheVariants.{NotJson, NotRequest, UnknownClass, UnknownMethod}
use Rattle.request_json.specs.Arguments.{◌>>?◌}
use Rattle.request_json.specs.RequestLines.{is_id, id_of, text_at, array_at, id_in, text_in, array_in, class_of, method_of as method_in, arguments_of, call_of, creation_of, has_keys, call_keys, creation_keys, of_data, data_of, reading_of}
use Rattle.request_json.specs.RequestTexts.{class_text, method_text, class_called, method_called, call_data, creation_data, passed_items, request_data, request_text}
use Rattle.request_json.proofs.LineData.{Within, data_least, IsSound, HasSound, read_fits}
use Rattle.request_json.proofs.RequestFits.{then_some, then_ok, found, where_true, stands_from, same_Ok, passed}
use Rattle.compact_lines.proofs.ArgumentSizes.{text_is, array_is, AreNoLonger, args_short}
use Rattle.compact_lines.proofs.MemberSizes.{Sought, sought, AreThere, AreApart, all_there, sound_at, tight_at}
use Rattle.compact_lines.proofs.ReadSizes.{IsTightData, HaveTight, members_size, first_members, all_members, read_sized}

-- ---- what is found in an object

string_there : (key : List ℕ) (ms : Members) (text : List ℕ) → text_at key (object ms) ≡ Some text → get_member key ms ≡ Some (string text)
string_there key ms text is =
    let d = then_some (get_member key ms) as_str text is in
    d.1 ∙ ap Some (text_is d.0 text d.2)

array_there : (key : List ℕ) (ms : Members) (ds : Items) → array_at key (object ms) ≡ Some ds → get_member key ms ≡ Some (array ds)
array_there key ms ds is =
    let d = then_some (get_member key ms) as_array ds is in
    d.1 ∙ ap Some (array_is d.0 ds d.2)

-- the text of an id
record IdThere (ms : Members) (id : List ℕ) : Type 0 where
  text : List ℕ
  at : get_member (codes "id") ms ≡ Some (string text)
  is : chars text ≡ id

id_there : (ms : Members) (id : List ℕ) → id_in (object ms) ≡ Ok id → IdThere ms id
id_there ms id is =
    let text = then_some (text_at (codes "id") (object ms)) id_of id (found (text_at (codes "id") (object ms) >>? id_of) NotRequest id is) in
    let kept = where_true (is_id (chars text.0)) (Some (chars text.0)) id text.2 in
    record { text = text.0; at = string_there (codes "id") ms text.0 text.1; is = same_Some (chars text.0) id kept.1 }

-- ---- data of the same parts

call_same : {i i' c c' k k' m m' : List ℕ} (args : Items) → i ≡ i' → c ≡ c' → k ≡ k' → m ≡ m' → call_data i c k m args ≡ call_data i' c' k' m' args
call_same {i} {i'} {c} {c'} {k} {k'} {m} {m'} args is_i is_c is_k is_m =
    ap (λ x. call_data x c k m args) is_i ∙ ap (λ x. call_data i' x k m args) is_c ∙ ap (λ x. call_data i' c' x m args) is_k ∙ ap (λ x. call_data i' c' k' x args) is_m

creation_same : {i i' c c' : List ℕ} (args : Items) → i ≡ i' → c ≡ c' → creation_data i c args ≡ creation_data i' c' args
creation_same {i} {i'} {c} {c'} args is_i is_c = ap (λ x. creation_data x c args) is_i ∙ ap (λ x. creation_data i' x args) is_c

-- ---- names

name_is : (names : List (List ℕ)) (n : ℕ) (text : List ℕ) → slice_get names n ≡ Some text → text_of names n ≡ text
unfolding text_of
name_is [] n text is = absurd (none-some text is)
name_is (x ∷ xs) zero text is = same_Some x text is
name_is (x ∷ xs) (suc n) text is = name_is xs n text is

placed_is : (names : List (List ℕ)) (text : List ℕ) (n : ℕ) → place_of names text ≡ Some n → text_of names n ≡ text
placed_is names text n is =
    let t = stands_from (bytes_eq text) names n (sym (position_is (bytes_eq text) names) ∙ is) in
    name_is names n t.0 t.1 ∙ sym ((bytes_eq-Decides text t.0).0 t.2)

module _ (names : List (List ℕ)) (program : PlainProgram) where
  abbrev src : Source
  src = record { program = program; names = names }

  class_is : (text : List ℕ) (class : ℕ) → class_of src text ≡ Ok class → class_called src class ≡ text
  class_is text class is =
      let name = then_found (λ name. position_from (λ c. c.name == name) 0 program) (place_of names text) class (found (class_number names program text) UnknownClass class is) in
      let c = stands_from (λ (c : PlainClass). c.name == name.0) program class name.2 in
      ap (class_text src) c.1 ∙ ap (text_of names) ((Decides-eqb c.0.name name.0).0 c.2) ∙ placed_is names text name.0 name.1

  method_is : (class : ℕ) (text : List ℕ) (method : ℕ) → method_in src class text ≡ Ok method → method_called src class method ≡ text
  method_is class text method is =
      let name = then_found (λ name. method_named names program class name) (place_of names text) method (found (method_number names program class text) UnknownMethod method is) in
      let c = named_class names program class name.0 method name.2 in
      let m = stands_from (λ (m : PlainMethod). m.name == name.0) (methods_among names c.0.members) method c.2 in
      let at : slice_get (methods_of src class) method ≡ Some m.0 = ap (λ o. slice_get (methods_among names (members_of o)) method) c.1 ∙ m.1 in
      ap (method_text src) at ∙ ap (text_of names) ((Decides-eqb m.0.name name.0).0 m.2) ∙ placed_is names text name.0 name.1

  -- ---- requests

  abbrev call_sought : List ℕ → List ℕ → List ℕ → List ℕ → Items → List Sought
  call_sought id class key method items =
      sought (codes "args") (array items) ∷ sought (codes "class") (string class) ∷ sought (codes "id") (string id) ∷ sought (codes "key") (string key) ∷ sought (codes "method") (string method) ∷ []

  abbrev creation_sought : List ℕ → List ℕ → Items → List Sought
  creation_sought id class items = sought (codes "class") (string class) ∷ sought (codes "id") (string id) ∷ sought (codes "new") (array items) ∷ []

  call_fits : (ms : Members) (id class key method : List ℕ) (args items : Items)
      → AreThere ms (call_sought id class key method items)
      → AreNoLonger args items → length (compact_text (call_data id class key method args)) ≤ length (compact_text (object ms))
  call_fits ms id class key method args items there shorter =
      let new = member (codes "args") (array args) (member (codes "class") (string class) (member (codes "id") (string id) (member (codes "key") (string key) (member (codes "method") (string method) no_members)))) in
      let apart : AreApart (call_sought id class key method items) =
      (((λ x y. refl), ((λ x y. refl), ((λ x y. refl), ((λ x y. refl), tt)))), (((λ x y. refl), ((λ x y. refl), ((λ x y. refl), tt))), (((λ x y. refl), ((λ x y. refl), tt)), (((λ x y. refl), tt), (tt, tt))))) in
      let all = all_there ms (call_sought id class key method items) there apart in
      let within = all_members ms in
      omega (arith, first_members new (members_size ms) (omega (arith, all)) (omega (arith, all, shorter false)), within)

  creation_fits : (ms : Members) (id class : List ℕ) (args items : Items)
      → AreThere ms (creation_sought id class items)
      → AreNoLonger args items → length (compact_text (creation_data id class args)) ≤ length (compact_text (object ms))
  creation_fits ms id class args items there shorter =
      let new = member (codes "class") (string class) (member (codes "id") (string id) (member (codes "new") (array args) no_members)) in
      let apart : AreApart (creation_sought id class items) =
      (((λ x y. refl), ((λ x y. refl), tt)), (((λ x y. refl), tt), (tt, tt))) in
      let all = all_there ms (creation_sought id class items) there apart in
      let within = all_members ms in
      omega (arith, first_members new (members_size ms) (omega (arith, all)) (omega (arith, all, shorter false)), within)

  abbrev IsShort : Members → Request → Type 0
  IsShort ms r = length (compact_text (request_data src r)) ≤ length (compact_text (object ms))

  call_short : (ms : Members) (r : Request) → HasSound ms → HaveTight ms → call_of src (object ms) ≡ Ok r → IsShort ms r
  call_short ms r sound tight is =
      let id = then_ok (id_in (object ms)) _ r is in
      let class_name = then_ok (text_in (codes "class") (object ms)) _ r id.2 in
      let key = then_ok (text_in (codes "key") (object ms)) _ r class_name.2 in
      let method_name = then_ok (text_in (codes "method") (object ms)) _ r key.2 in
      let items = then_ok (array_in (codes "args") (object ms)) _ r method_name.2 in
      let class = then_ok (class_of src class_name.0) _ r items.2 in
      let method = then_ok (method_in src class.0 method_name.0) _ r class.2 in
      let params = params_of (slice_get (methods_of src class.0) method.0) in
      let args = then_ok (arguments_of src params items.0) _ r method.2 in
      let id_at = id_there ms id.0 id.1 in
      let class_at = string_there (codes "class") ms class_name.0 (found (text_at (codes "class") (object ms)) NotRequest class_name.0 class_name.1) in
      let key_at = string_there (codes "key") ms key.0 (found (text_at (codes "key") (object ms)) NotRequest key.0 key.1) in
      let method_at = string_there (codes "method") ms method_name.0 (found (text_at (codes "method") (object ms)) NotRequest method_name.0 method_name.1) in
      let args_at = array_there (codes "args") ms items.0 (found (array_at (codes "args") (object ms)) NotRequest items.0 items.1) in
      let shorter = args_short src params items.0 args.0 (sound_at (codes "args") ms (array items.0) args_at sound) (tight_at (codes "args") ms (array items.0) args_at tight)
      (passed src params items.0 args.0 args.1) in
      let fits = call_fits ms id_at.text class_name.0 key.0 method_name.0 (passed_items args.0) items.0 (args_at, (class_at, (id_at.at, (key_at, (method_at, tt))))) shorter in
      let id_same : encode_utf8_all id.0 ≡ id_at.text = ap encode_utf8_all (sym id_at.is) ∙ encodes-chars id_at.text (sound_at (codes "id") ms (string id_at.text) id_at.at sound) in
      let key_same : encode_utf8_all (chars key.0) ≡ key.0 = encodes-chars key.0 (sound_at (codes "key") ms (string key.0) key_at sound) in
      let written = call_same (passed_items args.0) id_same (class_is class_name.0 class.0 class.1) key_same (method_is class.0 method_name.0 method.0 method.1) in
      subst (IsShort ms) (same_Ok (record { id = id.0; act = act.Call class.0 (chars key.0) method.0 args.0 }) r args.2) (subst (λ d. length (compact_text d) ≤ length (compact_text (object ms))) (sym written) fits)

  creation_short : (ms : Members) (r : Request) → HasSound ms → HaveTight ms → creation_of src (object ms) ≡ Ok r → IsShort ms r
  creation_short ms r sound tight is =
      let id = then_ok (id_in (object ms)) _ r is in
      let class_name = then_ok (text_in (codes "class") (object ms)) _ r id.2 in
      let items = then_ok (array_in (codes "new") (object ms)) _ r class_name.2 in
      let class = then_ok (class_of src class_name.0) _ r items.2 in
      let params = params_of (init_of src class.0) in
      let args = then_ok (arguments_of src params items.0) _ r class.2 in
      let id_at = id_there ms id.0 id.1 in
      let class_at = string_there (codes "class") ms class_name.0 (found (text_at (codes "class") (object ms)) NotRequest class_name.0 class_name.1) in
      let args_at = array_there (codes "new") ms items.0 (found (array_at (codes "new") (object ms)) NotRequest items.0 items.1) in
      let shorter = args_short src params items.0 args.0 (sound_at (codes "new") ms (array items.0) args_at sound) (tight_at (codes "new") ms (array items.0) args_at tight)
      (passed src params items.0 args.0 args.1) in
      let fits = creation_fits ms id_at.text class_name.0 (passed_items args.0) items.0 (class_at, (id_at.at, (args_at, tt))) shorter in
      let id_same : encode_utf8_all id.0 ≡ id_at.text = ap encode_utf8_all (sym id_at.is) ∙ encodes-chars id_at.text (sound_at (codes "id") ms (string id_at.text) id_at.at sound) in
      let written = creation_same (passed_items args.0) id_same (class_is class_name.0 class.0 class.1) in
      subst (IsShort ms) (same_Ok (record { id = id.0; act = act.New class.0 args.0 }) r args.2) (subst (λ d. length (compact_text d) ≤ length (compact_text (object ms))) (sym written) fits)

  asked_short : (d : Data) (r : Request) → IsSound d → IsTightData d → of_data src d ≡ Ok r → length (compact_text (request_data src r)) ≤ length (compact_text d)
  asked_short null r sound tight is = absurd cc
  asked_short (boolean b) r sound tight is = absurd cc
  asked_short (number n) r sound tight is = absurd cc
  asked_short (string s) r sound tight is = absurd cc
  asked_short (array ds) r sound tight is = absurd cc
  asked_short (object ms) r sound tight is = by (has_keys call_keys (object ms)) (has_keys creation_keys (object ms)) is
    where
      by : (calls makes : Bool) → (if calls then call_of src (object ms) else (if makes then creation_of src (object ms) else Err NotRequest)) ≡ Ok r → IsShort ms r
      by true makes is = call_short ms r sound tight is
      by false true is = creation_short ms r sound tight is
      by false false is = absurd cc

-- ---- lines

-- the longest front that is UTF-8 has no more bytes than were looked at, and where it has as many they are UTF-8
front_most : (line : List ℕ) (n : ℕ) → valid_len_up_to line n ≤ n
front_most line zero = omega arith
front_most line (suc n) = by (is_utf8 (take (suc n) line)) (front_most line n)
  where
    by : (b : Bool) → valid_len_up_to line n ≤ n → (if b then suc n else valid_len_up_to line n) ≤ suc n
    by true most = omega arith
    by false most = omega (arith, most)

front_utf8 : (line : List ℕ) (n : ℕ) → valid_len_up_to line n ≡ n → IsUtf8 (take n line)
front_utf8 line zero whole = IsUtf8-nil
front_utf8 line (suc n) whole = by (is_utf8 (take (suc n) line)) refl whole
  where
    by : (b : Bool) → is_utf8 (take (suc n) line) ≡ b → (if b then suc n else valid_len_up_to line n) ≡ suc n → IsUtf8 (take (suc n) line)
    by true passes same = IsUtf8-from_is_utf8 (take (suc n) line) passes
    by false passes same = absurd (omega (arith, same, front_most line n))

line_utf8 : (line : List ℕ) → utf8_valid_len line ≡ length line → IsUtf8 line
unfolding utf8_valid_len
line_utf8 line whole = subst IsUtf8 (take_all (length line) line (omega arith)) (front_utf8 line (length line) whole)

sound_read : (n : ℕ) (o : Option Data) (d : Data) → Within data_least IsSound n o → o ≡ Some d → IsSound d
sound_read n None d h is = absurd (none-some d is)
sound_read n (Some e) d h is = subst IsSound (same_Some e d is) h.1

pub line_short : (src : Source) (line : List ℕ) (r : Request) → reading_of src line ≡ Ok r → length (request_text src r) ≤ length line
unfolding request_text
line_short src line r is =
    let d = then_ok (ok_or (data_of line) NotJson) (of_data src) r is in
    let kept = where_true (utf8_valid_len line == length line) (read line) d.0 (found (data_of line) NotJson d.0 d.1) in
    let utf8 = line_utf8 line ((Decides-eqb (utf8_valid_len line) (length line)).0 kept.0) in
    let sized = read_sized line d.0 kept.1 in
    omega (arith, asked_short src.names src.program d.0 r (sound_read (length line + 1) (read line) d.0 (read_fits line utf8) kept.1) sized.1 d.2, sized.0)
