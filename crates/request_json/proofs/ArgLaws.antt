-- Walks over arguments: what the values that are made, and the rest, come to.
use Rattle.std.proofs.Common.{◌≡◌, ◌<◌, ◌≤◌, ◌+◌, ℕ, List, [], ◌∷◌, ◌++◌, length, drop, get_or, Option, Some, None, Err, Bool, true, false, nat_eq, if◌then◌else◌, refl, sym, ap, ◌∙◌, append-nil, append_assoc, add-one, drop-cons, arith, length-drop}
use Rattle.std.specs.Option.{option_map, ok_or}
use Rattle.std.proofs.lemmas.Bool.Decides.{nat_tests}
use Rattle.std.proofs.lemmas.List.{drop_all, length-map}
use Rattle.serde_json.specs.Data.{Data}
use Rattle.serde_json.specs.View.{view, items_view}
use Rattle.serde_json.specs.declared.value.Value.{Value}
use Rattle.py_tree.specs.declared.program.Param.{Param}
use Rattle.py_tree.specs.PlainProgram.{plain_param, plain_params}
use Rattle.program_meaning.specs.ClassTables.{Source}
use Rattle.sf_value.specs.declared.value.Value.{Value as Arg}
use Rattle.request_json.specs.Arguments.{◌>>?◌, each_of, arg_of, args_of}
use Rattle.request_json.specs.RequestLines.{length_of, arguments_of}
use Rattle.request_json.specs.declared.fault.LineFault.TheVariants.{ArgumentCount, ArgumentType}
use Rattle.request_json.proofs.DataLaws.{length_of_items}

pub cut_at : {A : Type 0} (xs : List A) (i : ℕ) (x : A) → i < length xs → x ≡ get_or xs i x → drop i xs ≡ x ∷ drop (i + 1) xs
cut_at xs i x lt is = let cut : drop i xs ≡ get_or xs i x ∷ drop (i + 1) xs = rw (add-one, drop-cons xs i x) in cut ∙ ap (λ y. y ∷ drop (i + 1) xs) (sym is)

-- one more value behind those that there are
behind_more : {A : Type 0} (made : List A) (v : A) (o : Option (List A)) → option_map (λ vs. made ++ vs) (o >>? λ vs. Some (v ∷ vs)) ≡ option_map (λ vs. (made ++ v ∷ []) ++ vs) o
behind_more made v None = refl
behind_more made v (Some vs) = ap Some (sym (append_assoc made (v ∷ []) vs))

-- these values, and then those that the rest come to, are those of the whole
abbrev pub GoesOn : List Arg → Option (List Arg) → Option (List Arg) → Type 0
GoesOn made rest whole = option_map (λ vs. made ++ vs) rest ≡ whole

abbrev first_of : Option Arg → Option (List Arg) → Option (List Arg)
first_of first rest = first >>? λ v. rest >>? λ vs. Some (v ∷ vs)

module _ (made : List Arg) (whole : Option (List Arg)) where
  goes_on : (first : Option Arg) (rest old : Option (List Arg)) (v : Arg) → GoesOn made old whole → old ≡ first_of first rest → first ≡ Some v → GoesOn (made ++ v ∷ []) rest whole
  goes_on first rest old v so_far cut is =
      sym (ap (option_map (λ vs. made ++ vs)) (cut ∙ ap (λ o. first_of o rest) is) ∙ behind_more made v rest) ∙ so_far

  stops : (first : Option Arg) (rest old : Option (List Arg)) → GoesOn made old whole → old ≡ first_of first rest → first ≡ None → None ≡ whole
  stops first rest old so_far cut is = sym (ap (option_map (λ vs. made ++ vs)) (cut ∙ ap (λ o. first_of o rest) is)) ∙ so_far

  none : (old : Option (List Arg)) → GoesOn made old whole → old ≡ None → None ≡ whole
  none old so_far is = sym (ap (option_map (λ vs. made ++ vs)) is) ∙ so_far

  ends : (old : Option (List Arg)) → GoesOn made old whole → old ≡ Some [] → Some made ≡ whole
  ends old so_far is = ap Some (sym (append-nil made)) ∙ sym (ap (option_map (λ vs. made ++ vs)) is) ∙ so_far

-- the items of an array, each a value of one type
module _ (f : Data → Option Arg) (ds : List Value) (i : ℕ) where
  each_more : (d : Value) → i < length ds → d ≡ get_or ds i d → each_of f (items_view (drop i ds)) ≡ first_of (f (view d)) (each_of f (items_view (drop (i + 1) ds)))
  each_more d lt is = ap (λ l. each_of f (items_view l)) (cut_at ds i d lt is)

  each_end : length ds ≤ i → each_of f (items_view (drop i ds)) ≡ Some []
  each_end le = let gone : drop i ds ≡ [] = drop_all i ds le in ap (λ l. each_of f (items_view l)) gone

  module _ (made : List Arg) (so_far : GoesOn made (each_of f (items_view (drop i ds))) (each_of f (items_view ds))) where
    pub each_goes : (d : Value) (v : Arg) → i < length ds → d ≡ get_or ds i d → f (view d) ≡ Some v → GoesOn (made ++ v ∷ []) (each_of f (items_view (drop (i + 1) ds))) (each_of f (items_view ds))
    each_goes d v lt is some = goes_on made _ (f (view d)) _ _ v so_far (each_more d lt is) some

    pub each_stops : (d : Value) → i < length ds → d ≡ get_or ds i d → f (view d) ≡ None → None ≡ each_of f (items_view ds)
    each_stops d lt is none = stops made _ (f (view d)) _ _ so_far (each_more d lt is) none

    pub each_ends : length ds ≤ i → Some made ≡ each_of f (items_view ds)
    each_ends le = ends made _ _ so_far (each_end le)

-- arguments, one for each parameter
module _ (src : Source) (ps : List Param) (ds : List Value) (i : ℕ) where
  abbrev rest_of : ℕ → Option (List Arg)
  rest_of k = args_of src (plain_params (drop k ps)) (items_view (drop k ds))

  abbrev whole : Option (List Arg)
  whole = args_of src (plain_params ps) (items_view ds)

  args_more : (p : Param) (d : Value) → i < length ps → p ≡ get_or ps i p → i < length ds → d ≡ get_or ds i d → rest_of i ≡ first_of (arg_of src (plain_param p).ty (view d)) (rest_of (i + 1))
  unfolding args_of
  args_more p d lp ip ld id = λ j. args_of src (plain_params (cut_at ps i p lp ip j)) (items_view (cut_at ds i d ld id j))

  args_short : (p : Param) → i < length ps → p ≡ get_or ps i p → length ds ≤ i → rest_of i ≡ None
  unfolding args_of
  args_short p lp ip le = let cut : drop i ds ≡ [] = drop_all i ds le in λ j. args_of src (plain_params (cut_at ps i p lp ip j)) (items_view (cut j))

  none_left : (rest : List Value) → 0 < length rest → args_of src [] (items_view rest) ≡ None
  unfolding args_of
  none_left [] lt = absurd (omega arith)
  none_left (d ∷ rest) lt = refl

  args_long : length ps ≤ i → i < length ds → rest_of i ≡ None
  args_long le ld = let cut : drop i ps ≡ [] = drop_all i ps le in ap (λ l. args_of src (plain_params l) (items_view (drop i ds))) cut ∙ none_left (drop i ds) (omega (arith, length-drop i ds))

  args_end : length ps ≤ i → length ds ≤ i → rest_of i ≡ Some []
  unfolding args_of
  args_end lp ld = let ends : drop i ps ≡ [] = drop_all i ps lp in let cut : drop i ds ≡ [] = drop_all i ds ld in λ j. args_of src (plain_params (ends j)) (items_view (cut j))

  module _ (made : List Arg) (so_far : GoesOn made (rest_of i) whole) where
    pub args_go : (p : Param) (d : Value) (v : Arg) → i < length ps → p ≡ get_or ps i p → i < length ds → d ≡ get_or ds i d → arg_of src (plain_param p).ty (view d) ≡ Some v → GoesOn (made ++ v ∷ []) (rest_of (i + 1)) whole
    args_go p d v lp ip ld id some = goes_on made whole (arg_of src (plain_param p).ty (view d)) _ _ v so_far (args_more p d lp ip ld id) some

    pub args_stop : (p : Param) (d : Value) → i < length ps → p ≡ get_or ps i p → i < length ds → d ≡ get_or ds i d → arg_of src (plain_param p).ty (view d) ≡ None → None ≡ whole
    args_stop p d lp ip ld id none = stops made whole (arg_of src (plain_param p).ty (view d)) _ _ so_far (args_more p d lp ip ld id) none

    pub args_too_few : (p : Param) → i < length ps → p ≡ get_or ps i p → length ds ≤ i → None ≡ whole
    args_too_few p lp ip le = none made whole _ so_far (args_short p lp ip le)

    pub args_too_many : length ps ≤ i → i < length ds → None ≡ whole
    args_too_many le ld = none made whole _ so_far (args_long le ld)

    pub args_done : length ps ≤ i → length ds ≤ i → Some made ≡ whole
    args_done lp ld = ends made whole _ so_far (args_end lp ld)

-- as many arguments as parameters, or another number
module _ (src : Source) (ps : List Param) (ds : List Value) where
  by_count : (b : Bool) → nat_eq (length ds) (length ps) ≡ b
      → arguments_of src (plain_params ps) (items_view ds) ≡ (if b then ok_or (args_of src (plain_params ps) (items_view ds)) ArgumentType else Err ArgumentCount)
  by_count b is =
      let counts : nat_eq (length_of (items_view ds)) (length (plain_params ps)) ≡ b = (λ i. nat_eq (length_of_items ds i) (length-map ps plain_param i)) ∙ is in
      ap (λ t. if t then ok_or (args_of src (plain_params ps) (items_view ds)) ArgumentType else Err ArgumentCount) counts

  pub same_count : length ds ≡ length ps → arguments_of src (plain_params ps) (items_view ds) ≡ ok_or (args_of src (plain_params ps) (items_view ds)) ArgumentType
  same_count same = by_count true (grind (arith, nat_tests))

  pub other_count : (length ds ≡ length ps → ⊥) → arguments_of src (plain_params ps) (items_view ds) ≡ Err ArgumentCount
  other_count other = by_count false (grind (arith, nat_tests))
