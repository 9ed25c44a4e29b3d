-- What fits the types of an accepted program nests no deeper than they do, and so has a spelling where it is light.
use Rattle.std.proofs.Common.{ℕ, ◌-◌, ◌≤◌, List, [], ◌∷◌, sym, subst, arith}
use Rattle.std.proofs.Math.Path.{transport}
use Rattle.std.specs.List.{AllByRecursion}
use Rattle.py_tree.specs.PlainTypes.{PlainTy}
use Rattle.py_tree.specs.PlainProgram.{PlainProgram}
use Rattle.py_tree.specs.ClassRules.{PlainTable, tables_of}
use Rattle.sf_value.specs.declared.value.Ref.{Ref}
use Rattle.sf_value.specs.declared.value.Value.{Value}
use Rattle.sf_value.specs.declared.value.Value.TheVariants as value
use Rattle.sf_value.specs.declared.Act.{Act}
use Rattle.sf_value.specs.declared.Act.TheVariants as act
use Rattle.sf_value.specs.declared.Held.{Held}
use Rattle.sf_value.specs.declared.Outcome.{Outcome}
use Rattle.sf_value.specs.declared.Outcome.TheVariants as outcome
use Rattle.byte_sizes.specs.Spelt.{IsShort, NestsWithin, IsReal, IsRealOutcome, IsRealHeld, IsReadValue, IsReadOutcome, IsReadHeld}
use Rattle.byte_sizes.proofs.Layers.{nests-List}
use Rattle.byte_sizes.proofs.Light.{size_by_weight}
use Rattle.byte_sizes.proofs.Small.{small_is_short}
use Rattle.program_meaning.specs.Fits.{Fits, int, bool, str, nil, list, none, some, entity, AllFit, empty, more, EachFits, no_value, one_more, RecordFits, ResultFits, IsCreated, OutcomeFits}
use Rattle.program_meaning.specs.LightValues.{IsLight, AreLight, one_more as light_more}
use Rattle.program_meaning.specs.NothingGoesWrong.{IsKnownAccepted}
use Rattle.request_json.specs.FittingSpellings.{type_nesting, HasLightValue, HasShortMessage, IsCounted}
use Rattle.request_json.proofs.FlatTypes.{AreFlat, fields_flat, result_flat}

mutual
  unfolding NestsWithin

  pub fits_nest : {tables : List PlainTable} {ty : PlainTy} {v : Value} (level : ℕ) → Fits tables ty v → type_nesting ty ≤ level → NestsWithin v level
  fits_nest level (int z) le = tt
  fits_nest level (bool b) le = tt
  fits_nest level (str text) le = tt
  fits_nest level nil le = tt
  fits_nest level (list {vs = vs} all) le = transport (sym (nests-List vs level)) (omega (arith, le), all_nest (level - 1) all (omega (arith, le)))
  fits_nest level none le = tt
  fits_nest level (some fits) le = fits_nest level fits (omega (arith, le))
  fits_nest level (entity at has) le = tt

  all_nest : {tables : List PlainTable} {ty : PlainTy} {vs : List Value} (level : ℕ) → AllFit tables ty vs → type_nesting ty ≤ level → AllByRecursion (λ v. NestsWithin v level) vs
  all_nest level empty le = tt
  all_nest level (more fits all) le = (fits_nest level fits le, all_nest level all le)

entity_nests : (at : Ref) (level : ℕ) → NestsWithin (value.Entity at) level
unfolding NestsWithin
entity_nests at level = tt

light_short : (v : Value) → IsLight v → IsShort v
light_short v light = small_is_short v (omega (arith, light.most, size_by_weight v))

pub value_spelt : (tables : List PlainTable) (ty : PlainTy) (v : Value) → Fits tables ty v → type_nesting ty ≤ 64 → IsLight v → IsReal v → IsReadValue v
value_spelt tables ty v fits flat light real = ((light_short v light, fits_nest 64 fits flat), real)

-- ---- records

all_light : (vs : List Value) → AreLight vs → AllByRecursion IsShort vs
all_light [] light = tt
all_light (v ∷ vs) (light_more one others) = (light_short v one, all_light vs others)

each_nests : {tables : List PlainTable} {types : List PlainTy} {vs : List Value} → EachFits tables types vs → AreFlat types → AllByRecursion (λ v. NestsWithin v (64 - 1)) vs
each_nests no_value flat = tt
each_nests (one_more fits others) flat = (fits_nest (64 - 1) fits (omega (arith, flat.0)), each_nests others flat.1)

module _ (names : List (List ℕ)) (program : PlainProgram) (accepted : IsKnownAccepted names program) where
  abbrev tables : List PlainTable
  tables = tables_of names program

  result_nests : (class method : ℕ) (v : Value) → ResultFits tables class method v → NestsWithin v 64
  result_nests class method v r = fits_nest 64 r.fits (result_flat names program accepted class method r.table r.sig r.has_table r.has_method)

  created_nests : (class : ℕ) (args : List Value) (v : Value) → IsCreated tables class args v → NestsWithin v 64
  created_nests class args v created = subst (λ v. NestsWithin v 64) (sym created.is) (entity_nests (record { class = class; key = created.key }) 64)

  answer_nests : (asked : Act) (v : Value) → OutcomeFits tables asked (outcome.Value v) → NestsWithin v 64
  answer_nests (act.Call class key method args) v fits = result_nests class method v fits
  answer_nests (act.New class args) v fits = created_nests class args v fits

  pub outcome_spelt : (asked : Act) (o : Outcome) → OutcomeFits tables asked o → HasLightValue o → HasShortMessage o → IsRealOutcome o → IsReadOutcome o
  outcome_spelt asked (outcome.Value v) fits light short real = ((light_short v light, answer_nests asked v fits), real)
  outcome_spelt asked (outcome.Failed f) fits light short real = (((fits.least, fits.most), short), real)

  pub record_spelt : (held : Held) → RecordFits tables held.at.class held.fields.fields → AreLight held.fields.fields → IsCounted held → IsRealHeld held → IsReadHeld held
  record_spelt held fits light counted real =
      let nests = each_nests fits.fit (fields_flat names program accepted held.at.class fits.table fits.has_table) in
      ((counted.key, ((counted.fields, all_light held.fields.fields light), (omega arith, nests))), real)
