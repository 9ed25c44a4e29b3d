-- The request that a line is has a spelling, and takes few bytes for those of the line.
use Rattle.std.proofs.Common.{◌≡◌, ℕ, zero, suc, ◌+◌, ◌*◌, ◌^◌, ◌<◌, ◌≤◌, Bool, true, false, List, [], ◌∷◌, length, take, Option, Some, None, Ok, Err, if◌then◌else◌, refl, sym, ap, subst, ◌∙◌, arith, take_all}
use Rattle.std.specs.Prelude.{slice_get, codes, IfSome, ◌==◌}
use Rattle.std.specs.Option.{ok_or}
use Rattle.std.specs.Ordering.{nat_cmp, match_ordering}
use Rattle.std.specs.declared.cmp.Ordering.{Ordering}
use Rattle.std.specs.declared.cmp.Ordering.TheVariants.{Less, Equal, Greater}
use Rattle.std.specs.Cmp.Lexicographic.{slice_cmp}
use Rattle.std.specs.List.{AllByRecursion, AllByRecursion-prop, position_from}
use Rattle.std.specs.Str.{IsUtf8, is_utf8, chars, encode_utf8_all}
use Rattle.std.specs.Str.Lossy.{valid_len_up_to, utf8_valid_len}
use Rattle.std.proofs.Math.Bridge.{le_prop}
use Rattle.std.proofs.Math.Logic.{∥∥₁_elim}
use Rattle.std.proofs.lemmas.Bool.Decides.{Decides-eqb}
use Rattle.std.proofs.lemmas.List.Elements.{recursion_from_All}
use Rattle.std.proofs.lemmas.Option.{same_Some, none-some, slice_get_within}
use Rattle.std.proofs.lemmas.Str.{IsUtf8-nil, IsUtf8-from_is_utf8, encodes-chars, scalars-chars}
use Rattle.serde_json.specs.Data.{Data, null, boolean, number, string, array, object, Items, Members, no_members, member}
use Rattle.serde_json.specs.Read.{read}
use Rattle.serde_json.specs.Find.{get_member, as_str, as_array}
use Rattle.py_tree.specs.PlainTypes.{PlainWritten}
use Rattle.py_tree.specs.PlainProgram.{PlainParam, PlainMethod, PlainClass, PlainProgram}
use Rattle.py_tree.specs.Acceptance.{class_number, method_named, method_number}
use Rattle.py_tree.specs.NameTable.{place_of}
use Rattle.py_tree.specs.Bounded.{IsBounded, IsBoundedMethod, IsBoundedParam, nesting}
use Rattle.py_tree.specs.ClassRules.{params_of, methods_of as methods_among}
use Rattle.py_tree.proofs.CheckedLaws.{named_class}
use Rattle.py_tree.proofs.ClassRuleLaws.{few_classes, few_methods}
use Rattle.sf_value.specs.declared.value.Value.{Value}
use Rattle.sf_value.specs.declared.Act.TheVariants as act
use Rattle.sf_value.specs.declared.Request.{Request}
use Rattle.byte_sizes.specs.Sizes.{text_size, act_size, request_size}
use Rattle.byte_sizes.specs.Spelt.{IsRealText, AreSpelt}
use Rattle.byte_sizes.proofs.Small.{small_are_short}
use Rattle.program_meaning.specs.ClassTables.{Source, methods_of, init_of}
use Rattle.program_meaning.specs.NothingGoesWrong.{IsKnownAccepted}
use Rattle.program_meaning.proofs.TableFacts.{then_found}
use Rattle.request_json.specs.declared.fault.LineFault.TheVariants.{NotJson, NotRequest, UnknownClass, UnknownMethod}
use Rattle.request_json.specs.Arguments.{◌>>?◌}
use Rattle.request_json.specs.RequestLines.{is_id, id_of, text_at, array_at, id_in, text_in, array_in, class_of, method_of as method_in, arguments_of, call_of, creation_of, has_keys, call_keys, creation_keys, of_data, data_of, longest, reading_of}
use Rattle.request_history.specs.SoundHistory.{IdFits}
use Rattle.request_json.specs.LineSpellings.{HasSpelling}
use Rattle.request_json.proofs.LineData.{Within, data_least, items_least, members_least, IsSound, AreSound, HasSound, read_fits}
use Rattle.request_json.proofs.ArgumentSpellings.{nesting_is, IsFlatTy, IsFlat, text_there, array_there, Arguments, arguments}
use Rattle.request_json.proofs.BoundedParts.{bounded_method, bounded_init}
use Rattle.request_json.proofs.RequestFits.{then_some, then_ok, found, where_true, stands_from, same_Ok, passed, id_is}

-- ---- the data of a line

longest_front : (line : List ℕ) (n : ℕ) → valid_len_up_to line n ≤ n
longest_front line zero = omega arith
longest_front line (suc n) = by (is_utf8 (take (suc n) line)) (longest_front line n)
  where
    by : (b : Bool) → valid_len_up_to line n ≤ n → (if b then suc n else valid_len_up_to line n) ≤ suc n
    by true le = omega arith
    by false le = omega (arith, le)

whole_front : (line : List ℕ) (n : ℕ) → valid_len_up_to line n ≡ n → IsUtf8 (take n line)
whole_front line zero is = IsUtf8-nil
whole_front line (suc n) is = by (is_utf8 (take (suc n) line)) refl is
  where
    by : (b : Bool) → is_utf8 (take (suc n) line) ≡ b → (if b then suc n else valid_len_up_to line n) ≡ suc n → IsUtf8 (take (suc n) line)
    by true passes e = IsUtf8-from_is_utf8 (take (suc n) line) passes
    by false fails e = absurd (omega (arith, e, longest_front line n))

line_utf8 : (line : List ℕ) → utf8_valid_len line ≡ length line → IsUtf8 line
unfolding utf8_valid_len
line_utf8 line is = subst IsUtf8 (take_all (length line) line (omega arith)) (whole_front line (length line) is)

read_some : (n : ℕ) (o : Option Data) (d : Data) → Within data_least IsSound n o → o ≡ Some d → (data_least d ≤ n) × IsSound d
read_some n None d h is = absurd (none-some d is)
read_some n (Some e) d h is = subst (λ d. (data_least d ≤ n) × IsSound d) (same_Some e d is) h

data_there : (line : List ℕ) (d : Data) → data_of line ≡ Some d → (data_least d ≤ length line + 1) × IsSound d
data_there line d is =
    let kept = where_true (utf8_valid_len line == length line) (read line) d is in
    read_some (length line + 1) (read line) d (read_fits line (line_utf8 line ((Decides-eqb (utf8_valid_len line) (length line)).0 kept.0))) kept.1

-- ---- members of an object

-- what a look-up that goes by this order finds
member_is : (o : Ordering) (e x : Data) (rest : Option Data) → match_ordering o rest (Some e) rest ≡ Some x → (P : Type 0) → (e ≡ x → P) → (rest ≡ Some x → P) → P
member_is Less e x rest is P here later = later is
member_is Equal e x rest is P here later = here (same_Some e x is)
member_is Greater e x rest is P here later = later is

one_member : (k : List ℕ) (ms : Members) (x : Data) → get_member k ms ≡ Some x → HasSound ms → (data_least x ≤ members_least ms) × IsSound x
one_member k no_members x is sound = absurd (none-some x is)
one_member k (member l e ms) x is sound =
    member_is (slice_cmp nat_cmp k l) e x (get_member k ms) is _
    (λ same. subst (λ x. (data_least x ≤ data_least e + members_least ms) × IsSound x) same (omega arith, sound.0))
    (λ later. let rest = one_member k ms x later sound.1 in (omega (arith, rest.0), rest.1))

-- two that are of different kinds stand side by side
two_members : (j k : List ℕ) (ms : Members) (x y : Data) → get_member j ms ≡ Some x → get_member k ms ≡ Some y → HasSound ms → (x ≡ y → ⊥) → data_least x + data_least y ≤ members_least ms
two_members j k no_members x y at_j at_k sound differ = absurd (none-some x at_j)
two_members j k (member l e ms) x y at_j at_k sound differ =
    member_is (slice_cmp nat_cmp j l) e x (get_member j ms) at_j _
    (λ here. member_is (slice_cmp nat_cmp k l) e y (get_member k ms) at_k _
    (λ there. absurd (differ (sym here ∙ there)))
    (λ there. omega (arith, ap data_least here, (one_member k ms y there sound.1).0)))
    (λ here. member_is (slice_cmp nat_cmp k l) e y (get_member k ms) at_k _
    (λ there. omega (arith, ap data_least there, (one_member j ms x here sound.1).0))
    (λ there. omega (arith, two_members j k ms x y here there sound.1 differ)))

apart : (x : Data) (text : List ℕ) (ds : Items) → as_str x ≡ Some text → as_array x ≡ Some ds → ⊥
apart null text ds s a = none-some text s
apart (boolean b) text ds s a = none-some text s
apart (number n) text ds s a = none-some text s
apart (string t) text ds s a = none-some ds a
apart (array es) text ds s a = none-some text s
apart (object ms) text ds s a = none-some text s

text_member : (k : List ℕ) (d : Data) (text : List ℕ) → IsSound d → text_at k d ≡ Some text → (2 + length text ≤ data_least d) × IsUtf8 text
text_member k null text sound is = absurd (none-some text is)
text_member k (boolean b) text sound is = absurd (none-some text is)
text_member k (number n) text sound is = absurd (none-some text is)
text_member k (string s) text sound is = absurd (none-some text is)
text_member k (array ds) text sound is = absurd (none-some text is)
text_member k (object ms) text sound is =
    let x = then_some (get_member k ms) as_str text is in
    let one = one_member k ms x.0 x.1 sound in
    let there = text_there x.0 text one.1 x.2 in
    (omega (arith, there.0, one.0), there.1)

array_member : (k : List ℕ) (d : Data) (ds : Items) → IsSound d → array_at k d ≡ Some ds → (1 + items_least ds ≤ data_least d) × AreSound ds
array_member k null ds sound is = absurd (none-some ds is)
array_member k (boolean b) ds sound is = absurd (none-some ds is)
array_member k (number n) ds sound is = absurd (none-some ds is)
array_member k (string s) ds sound is = absurd (none-some ds is)
array_member k (array es) ds sound is = absurd (none-some ds is)
array_member k (object ms) ds sound is =
    let x = then_some (get_member k ms) as_array ds is in
    let one = one_member k ms x.0 x.1 sound in
    let there = array_there x.0 ds one.1 x.2 in
    (omega (arith, there.0, one.0), there.1)

both_members : (j k : List ℕ) (d : Data) (text : List ℕ) (ds : Items) → IsSound d → text_at j d ≡ Some text → array_at k d ≡ Some ds → 3 + length text + items_least ds ≤ data_least d
both_members j k null text ds sound t a = absurd (none-some text t)
both_members j k (boolean b) text ds sound t a = absurd (none-some text t)
both_members j k (number n) text ds sound t a = absurd (none-some text t)
both_members j k (string s) text ds sound t a = absurd (none-some text t)
both_members j k (array es) text ds sound t a = absurd (none-some text t)
both_members j k (object ms) text ds sound t a =
    let x = then_some (get_member j ms) as_str text t in
    let y = then_some (get_member k ms) as_array ds a in
    let first = text_there x.0 text (one_member j ms x.0 x.1 sound).1 x.2 in
    let second = array_there y.0 ds (one_member k ms y.0 y.1 sound).1 y.2 in
    let two = two_members j k ms x.0 y.0 x.1 y.1 sound (λ same. apart x.0 text ds x.2 (ap as_array same ∙ y.2)) in
    omega (arith, first.0, second.0, two)

-- ---- what a request consists of

id_real : (d : Data) (id : List ℕ) → IsSound d → id_in d ≡ Ok id → IsRealText id
id_real d id sound is =
    let text = then_some (text_at (codes "id") d) id_of id (found (text_at (codes "id") d >>? id_of) NotRequest id is) in
    let kept = where_true (is_id (chars text.0)) (Some (chars text.0)) id text.2 in
    subst IsRealText (same_Some _ _ kept.1) (scalars-chars text.0 (text_member (codes "id") d text.0 sound text.1).1)

spelt_arguments : (least : ℕ) (vs : List Value) → Arguments 63 least vs → 9 * least + 5 < 2 ^ 32 → AreSpelt vs
spelt_arguments least vs all small = (small_are_short vs (omega (arith, all.size, small)), (omega arith, all.nests))

call_spelt : (n least class method : ℕ) (id key : List ℕ) (vs : List Value) → n ≤ 1048576 → 3 + length (encode_utf8_all key) + least ≤ n + 1 → IdFits id → IsRealText id → IsRealText key → class < 2 ^ 32 → method < 2 ^ 32 → Arguments 63 least vs
    → HasSpelling (9 * n + 100) (record { id = id; act = act.Call class key method vs })
unfolding request_size act_size text_size
call_spelt n least class method id key vs few le fits real_id real_key class_small method_small all = record {
  spelt = ((omega (arith, fits.few), (omega (arith, le, few), spelt_arguments least vs all (omega (arith, le, few)))), (real_id, (class_small, (real_key, (method_small, all.real)))));
  short = omega (arith, fits.few, le, all.size);
}

creation_spelt : (n least class : ℕ) (id : List ℕ) (vs : List Value) → n ≤ 1048576 → 1 + least ≤ n + 1 → IdFits id → IsRealText id → class < 2 ^ 32 → Arguments 63 least vs → HasSpelling (9 * n + 100) (record { id = id; act = act.New class vs })
unfolding request_size act_size text_size
creation_spelt n least class id vs few le fits real_id class_small all = record {
  spelt = ((omega (arith, fits.few), spelt_arguments least vs all (omega (arith, le, few))), (real_id, (class_small, all.real)));
  short = omega (arith, fits.few, le, all.size);
}

-- ---- parameters of an accepted program

flat_ty : (ty : Option PlainWritten) → IfSome ty (λ t. nesting t ≤ 63) → IsFlatTy 63 ty
flat_ty None h = tt
flat_ty (Some t) h = omega (arith, nesting_is t, h)

flat_params : (count : ℕ) (ps : List PlainParam) → AllByRecursion (IsBoundedParam count) ps → AllByRecursion (IsFlat 63) ps
flat_params count [] all = tt
flat_params count (p ∷ ps) all = (flat_ty p.ty all.0.type_flat, flat_params count ps all.1)

flat_ty_prop : (ty : Option PlainWritten) → IsProp (IsFlatTy 63 ty)
flat_ty_prop None = λ x y. refl
flat_ty_prop (Some t) = le_prop

flat_method : (count : ℕ) (m : Option PlainMethod) → IfSome m (IsBoundedMethod count) → AllByRecursion (IsFlat 63) (params_of m)
flat_method count None h = tt
flat_method count (Some m) h = flat_params count m.params (recursion_from_All (IsBoundedParam count) m.params h.params)

module _ (names : List (List ℕ)) (program : PlainProgram) (accepted : IsKnownAccepted names program) where
  abbrev src : Source
  src = record { program = program; names = names }

  -- what is shown of a method where the program is bounded
  flat_where : (m : Option PlainMethod) → (IsBounded names program → IfSome m (IsBoundedMethod (length names))) → AllByRecursion (IsFlat 63) (params_of m)
  flat_where m h = ∥∥₁_elim accepted.bounded (AllByRecursion-prop (IsFlat 63) (λ p. flat_ty_prop p.ty) (params_of m)) (λ b. flat_method (length names) m (h b))

  flat_init : (class : ℕ) → AllByRecursion (IsFlat 63) (params_of (init_of src class))
  flat_init class = flat_where (init_of src class) (λ b. bounded_init names program b class)

  flat_call : (class method : ℕ) → AllByRecursion (IsFlat 63) (params_of (slice_get (methods_of src class) method))
  flat_call class method = flat_where (slice_get (methods_of src class) method) (λ b. bounded_method names program b class method)

  few : length program < 2 ^ 32
  few = omega (arith, few_classes names program accepted.rules.classes)

  class_small : (text : List ℕ) (class : ℕ) → class_number names program text ≡ Some class → class < 2 ^ 32
  class_small text class named =
      let name = then_found (λ name. position_from (λ c. c.name == name) 0 program) (place_of names text) class named in
      let c = stands_from (λ (c : PlainClass). c.name == name.0) program class name.2 in
      omega (arith, few, slice_get_within program class c.0 c.1)

  method_small : (class : ℕ) (text : List ℕ) (method : ℕ) → method_number names program class text ≡ Some method → method < 2 ^ 32
  method_small class text method named =
      let name = then_found (λ name. method_named names program class name) (place_of names text) method named in
      let c = named_class names program class name.0 method name.2 in
      let m = stands_from (λ (m : PlainMethod). m.name == name.0) (methods_among names c.0.members) method c.2 in
      omega (arith, few_methods names program class c.0 accepted.rules.classes c.1, slice_get_within (methods_among names c.0.members) method m.0 m.1)

  asked_call : (n : ℕ) (d : Data) (r : Request) → n ≤ 1048576 → data_least d ≤ n + 1 → IsSound d → call_of src d ≡ Ok r → HasSpelling (9 * n + 100) r
  asked_call n d r most least sound is =
      let id = then_ok (id_in d) _ r is in
      let class_name = then_ok (text_in (codes "class") d) _ r id.2 in
      let key = then_ok (text_in (codes "key") d) _ r class_name.2 in
      let method_name = then_ok (text_in (codes "method") d) _ r key.2 in
      let items = then_ok (array_in (codes "args") d) _ r method_name.2 in
      let class = then_ok (class_of src class_name.0) _ r items.2 in
      let method = then_ok (method_in src class.0 method_name.0) _ r class.2 in
      let params = params_of (slice_get (methods_of src class.0) method.0) in
      let args = then_ok (arguments_of src params items.0) _ r method.2 in
      let key_at = found (text_at (codes "key") d) NotRequest key.0 key.1 in
      let items_at = found (array_at (codes "args") d) NotRequest items.0 items.1 in
      let key_there = text_member (codes "key") d key.0 sound key_at in
      let items_there = array_member (codes "args") d items.0 sound items_at in
      let room = both_members (codes "key") (codes "args") d key.0 items.0 sound key_at items_at in
      let within : 3 + length (encode_utf8_all (chars key.0)) + items_least items.0 ≤ n + 1 = omega (arith, room, least, ap length (encodes-chars key.0 key_there.1)) in
      let all = arguments src few params 63 (flat_call class.0 method.0) items.0 args.0 items_there.1 (passed src params items.0 args.0 args.1) in
      subst (HasSpelling (9 * n + 100)) (same_Ok _ r args.2)
      (call_spelt n (items_least items.0) class.0 method.0 id.0 (chars key.0) args.0 most within (id_is names program d id.0 id.1) (id_real d id.0 sound id.1) (scalars-chars key.0 key_there.1)
      (class_small class_name.0 class.0 (found (class_number names program class_name.0) UnknownClass class.0 class.1))
      (method_small class.0 method_name.0 method.0 (found (method_number names program class.0 method_name.0) UnknownMethod method.0 method.1)) all)

  asked_creation : (n : ℕ) (d : Data) (r : Request) → n ≤ 1048576 → data_least d ≤ n + 1 → IsSound d → creation_of src d ≡ Ok r → HasSpelling (9 * n + 100) r
  asked_creation n d r most least sound is =
      let id = then_ok (id_in d) _ r is in
      let class_name = then_ok (text_in (codes "class") d) _ r id.2 in
      let items = then_ok (array_in (codes "new") d) _ r class_name.2 in
      let class = then_ok (class_of src class_name.0) _ r items.2 in
      let params = params_of (init_of src class.0) in
      let args = then_ok (arguments_of src params items.0) _ r class.2 in
      let items_there = array_member (codes "new") d items.0 sound (found (array_at (codes "new") d) NotRequest items.0 items.1) in
      let all = arguments src few params 63 (flat_init class.0) items.0 args.0 items_there.1 (passed src params items.0 args.0 args.1) in
      subst (HasSpelling (9 * n + 100)) (same_Ok _ r args.2)
      (creation_spelt n (items_least items.0) class.0 id.0 args.0 most (omega (arith, items_there.0, least)) (id_is names program d id.0 id.1) (id_real d id.0 sound id.1)
      (class_small class_name.0 class.0 (found (class_number names program class_name.0) UnknownClass class.0 class.1)) all)

  asked : (n : ℕ) (d : Data) (r : Request) → n ≤ 1048576 → data_least d ≤ n + 1 → IsSound d → of_data src d ≡ Ok r → HasSpelling (9 * n + 100) r
  asked n d r most least sound = by (has_keys call_keys d) (has_keys creation_keys d)
    where
      by : (calls makes : Bool) → (if calls then call_of src d else (if makes then creation_of src d else Err NotRequest)) ≡ Ok r → HasSpelling (9 * n + 100) r
      by true makes is = asked_call n d r most least sound is
      by false true is = asked_creation n d r most least sound is
      by false false is = absurd cc

  pub reading_spelt : (line : List ℕ) (r : Request) → length line ≤ longest → reading_of src line ≡ Ok r → HasSpelling (9 * length line + 100) r
  reading_spelt line r most is =
      let d = then_ok (ok_or (data_of line) NotJson) (of_data src) r is in
      let there = data_there line d.0 (found (data_of line) NotJson d.0 d.1) in
      asked (length line) d.0 r most there.0 there.1 d.2
