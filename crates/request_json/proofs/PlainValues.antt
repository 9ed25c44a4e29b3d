-- The data of a real value are plain, and nest no deeper than the types that it fits.
use Rattle.std.proofs.Common.{◌≡◌, ◌∙◌, ℕ, suc, ℤ, ◌≤◌, max, Bool, List, [], ◌∷◌, map, FitsSigned, refl, sym, ap, subst, arith}
use Rattle.std.proofs.Math.Path.{transport}
use Rattle.std.specs.Int.{w128}
use Rattle.std.specs.Str.{encode_utf8_all}
use Rattle.serde_json.specs.Data.{Data, depth, items_depth}
use Rattle.serde_json.specs.Data as json
use Rattle.serde_json.specs.View.{items_of}
use Rattle.py_tree.specs.PlainTypes.{PlainTy}
use Rattle.py_tree.specs.ClassRules.{PlainTable}
use Rattle.sf_value.specs.declared.value.Ref.{Ref}
use Rattle.sf_value.specs.declared.value.Value.{Value, Value-F, map-Value, roll-Value}
use Rattle.sf_value.specs.declared.value.Value.TheFolds.{fold-roll-Value, ind-Value}
use Rattle.sf_value.specs.declared.value.Value.TheVariants as value
use Rattle.sf_value.specs.declared.value.Value.TheVariants.{rolls-Int, rolls-Bool, rolls-Str, rolls-Nil, rolls-List, rolls-Entity}
use Rattle.sf_value.specs.declared.value.Value.TheOpen as open'
use Rattle.byte_sizes.specs.Spelt.{IsReal, AreReal}
use Rattle.byte_sizes.proofs.Layers.{real-List}
use Rattle.program_meaning.specs.Fits.{Fits, int, bool, str, nil, list, none, some, entity, AllFit, empty, more, EachFits, no_value, one_more}
use Rattle.json_texts.specs.PlainData.{IsPlain, ArePlain}
use Rattle.request_json.specs.FittingSpellings.{type_nesting}
use Rattle.request_json.specs.ValueData.{step_with, data_with, items_with}

module _ (ints : ℤ → Data) where
  -- the data of each variant
  pub int_is : (z : ℤ) → data_with ints (value.Int z) ≡ ints z
  int_is z = ap (data_with ints) (sym (rolls-Int z)) ∙ fold-roll-Value Data (step_with ints) (open'.Int z)

  pub bool_is : (b : Bool) → data_with ints (value.Bool b) ≡ json.boolean b
  bool_is b = ap (data_with ints) (sym (rolls-Bool b)) ∙ fold-roll-Value Data (step_with ints) (open'.Bool b)

  pub str_is : (text : List ℕ) → data_with ints (value.Str text) ≡ json.string (encode_utf8_all text)
  str_is text = ap (data_with ints) (sym (rolls-Str text)) ∙ fold-roll-Value Data (step_with ints) (open'.Str text)

  pub nil_is : data_with ints value.Nil ≡ json.null
  nil_is = ap (data_with ints) (sym rolls-Nil) ∙ fold-roll-Value Data (step_with ints) open'.Nil

  pub list_is : (vs : List Value) → data_with ints (value.List vs) ≡ json.array (items_with ints vs)
  list_is vs = ap (data_with ints) (sym (rolls-List vs)) ∙ fold-roll-Value Data (step_with ints) (open'.List vs)

  pub entity_is : (at : Ref) → data_with ints (value.Entity at) ≡ json.string (encode_utf8_all at.key)
  entity_is at = ap (data_with ints) (sym (rolls-Entity at)) ∙ fold-roll-Value Data (step_with ints) (open'.Entity at)

-- ---- what is plain

module _ (ints : ℤ → Data) (plain : (z : ℤ) → FitsSigned w128 z → IsPlain (ints z)) where
  abbrev IsPlainWhereReal : Value → Type 0
  IsPlainWhereReal v = IsReal v → IsPlain (data_with ints v)

  shown_plain : (vs : List ((v : Value) × IsPlainWhereReal v)) → AreReal (map (λ e. e.0) vs) → ArePlain (items_of (map (data_with ints) (map (λ e. e.0) vs)))
  shown_plain [] real = tt
  shown_plain (v ∷ vs) real = (v.1 real.0, shown_plain vs real.1)

  -- a layer with what holds of each value inside
  layer_plain : (y : Value-F ((v : Value) × IsPlainWhereReal v)) → IsReal (roll-Value (map-Value ((v : Value) × IsPlainWhereReal v) Value (λ e. e.0) y))
      → IsPlain (step_with ints (map-Value Value Data (data_with ints) (map-Value ((v : Value) × IsPlainWhereReal v) Value (λ e. e.0) y)))
  unfolding IsReal
  layer_plain (open'.Int z) real = plain z (subst IsReal (rolls-Int z) real)
  layer_plain (open'.Bool b) real = tt
  layer_plain (open'.Str text) real = (text, (subst IsReal (rolls-Str text) real, refl))
  layer_plain open'.Nil real = tt
  layer_plain (open'.List items) real = shown_plain items (transport (real-List (map (λ e. e.0) items)) (subst IsReal (rolls-List (map (λ e. e.0) items)) real))
  layer_plain (open'.Entity at) real = let there : IsReal (value.Entity at) = subst IsReal (rolls-Entity at) real in (at.key, (there.1, refl))

  pub value_plain : (v : Value) → IsPlainWhereReal v
  value_plain = ind-Value IsPlainWhereReal (λ x y is. subst (λ z. IsReal (roll-Value z) → IsPlain (data_with ints (roll-Value z))) is
      (λ real. subst IsPlain (sym (fold-roll-Value Data (step_with ints) (map-Value ((v : Value) × IsPlainWhereReal v) Value (λ e. e.0) y))) (layer_plain y real)))

  pub values_plain : (vs : List Value) → AreReal vs → ArePlain (items_with ints vs)
  values_plain [] real = tt
  values_plain (v ∷ vs) real = (value_plain v real.0, values_plain vs real.1)

-- ---- how deep they nest

-- each of these types nests no deeper than this
abbrev pub NestTypes : ℕ → List PlainTy → Type 0
NestTypes level [] = Unit {0}
NestTypes level (ty ∷ types) = (type_nesting ty ≤ level) × NestTypes level types

module _ (ints : ℤ → Data) (flat : (z : ℤ) → depth (ints z) ≡ 0) {tables : List PlainTable} where
  mutual
    value_flat : {ty : PlainTy} {v : Value} → Fits tables ty v → depth (data_with ints v) ≤ type_nesting ty
    value_flat (int z) = omega (arith, ap depth (int_is ints z), flat z)
    value_flat (bool b) = omega (arith, ap depth (bool_is ints b))
    value_flat (str text) = omega (arith, ap depth (str_is ints text))
    value_flat nil = omega (arith, ap depth (nil_is ints))
    value_flat (list {vs = vs} all) = omega (arith, ap depth (list_is ints vs), all_flat all)
    value_flat none = omega (arith, ap depth (nil_is ints))
    value_flat (some fits) = omega (arith, value_flat fits)
    value_flat (entity at has) = omega (arith, ap depth (entity_is ints at))

    all_flat : {ty : PlainTy} {vs : List Value} → AllFit tables ty vs → items_depth (items_with ints vs) ≤ type_nesting ty
    all_flat empty = omega arith
    all_flat (more fits all) = omega (arith, value_flat fits, all_flat all)

  pub each_flat : (level : ℕ) {types : List PlainTy} {vs : List Value} → EachFits tables types vs → NestTypes level types → items_depth (items_with ints vs) ≤ level
  each_flat level no_value nest = omega arith
  each_flat level (one_more fits others) nest = omega (arith, value_flat fits, nest.0, each_flat level others nest.1)
