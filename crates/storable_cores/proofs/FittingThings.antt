-- What fits an accepted program and is short has a spelling: a record, what a request comes to, and a state.
use Rattle.std.proofs.Common.{◌≡◌, ℕ, suc, ◌-◌, List, length, refl, sym, ap, ◌∙◌, subst, arith}
use Rattle.std.specs.List.{AllByRecursion}
use Rattle.std.proofs.lemmas.List.{length-map}
use Rattle.py_tree.specs.PlainTypes.{PlainTy}
use Rattle.py_tree.specs.PlainProgram.{PlainProgram}
use Rattle.py_tree.specs.ClassRules.{PlainTable, tables_of}
use Rattle.sf_value.specs.declared.value.Ref.{Ref}
use Rattle.sf_value.specs.declared.value.Value.{Value}
use Rattle.sf_value.specs.declared.value.Value.TheVariants as value
use Rattle.sf_value.specs.declared.Act.{Act}
use Rattle.sf_value.specs.declared.Act.TheVariants as act
use Rattle.sf_value.specs.declared.Outcome.{Outcome}
use Rattle.sf_value.specs.declared.Outcome.TheVariants as outcome
use Rattle.byte_sizes.specs.Spelt.{IsShort, NestsWithin, AreSpelt, IsSpeltOutcome}
use Rattle.program_meaning.specs.World.{State}
use Rattle.program_meaning.specs.Fits.{EachFits, no_value, one_more, RecordFits, ResultFits, IsCreated, OutcomeFits, StateFits}
use Rattle.program_meaning.specs.NothingGoesWrong.{IsKnownAccepted}
use Rattle.short_runs.specs.ShortRuns.{OutcomeIsShort, StateIsShort}
use Rattle.request_json.proofs.FittingSpellings.{fits_nest}
use Rattle.storable_cores.specs.Storable.{StateIsSpelt}
use Rattle.request_json.proofs.FlatTypes.{AreFlat, fields_flat, result_flat}
use Rattle.storable_cores.proofs.FewFields.{few_fields}

each_nests : {tables : List PlainTable} {types : List PlainTy} {vs : List Value} → EachFits tables types vs → AreFlat types
    → AllByRecursion (λ v. NestsWithin v (64 - 1)) vs
each_nests no_value flat = tt
each_nests (one_more fits others) flat = (fits_nest (64 - 1) fits (omega (arith, flat.0)), each_nests others flat.1)

as_many : {tables : List PlainTable} {types : List PlainTy} {vs : List Value} → EachFits tables types vs → length vs ≡ length types
as_many no_value = refl
as_many (one_more fits others) = ap suc (as_many others)

entity_nests : (at : Ref) (level : ℕ) → NestsWithin (value.Entity at) level
unfolding NestsWithin
entity_nests at level = tt

pub state_short : (s : State) → StateIsSpelt s → StateIsShort s
state_short s spelt = record { each = λ at fields there. let held = spelt at fields there in (held.0, held.1.0.1) }

module _ (names : List (List ℕ)) (program : PlainProgram) (accepted : IsKnownAccepted names program) where
  abbrev tables : List PlainTable
  tables = tables_of names program

  record_spelt : (class : ℕ) (fields : List Value) → RecordFits tables class fields → AllByRecursion IsShort fields → AreSpelt fields
  record_spelt class fields fits short =
      let few = few_fields names program accepted class fits.table fits.has_table in
      let many = as_many fits.fit ∙ length-map fits.table.fields (λ f. f.ty) in
      ((omega (arith, few, many), short), (omega arith, each_nests fits.fit (fields_flat names program accepted class fits.table fits.has_table)))

  pub state_spelt : (s : State) → StateFits tables s → StateIsShort s → StateIsSpelt s
  state_spelt s fits short = λ at fields there. let held = short.each at fields there in (held.0, record_spelt at.0 fields (fits.each at fields there) held.1)

  result_nests : (class method : ℕ) (v : Value) → ResultFits tables class method v → NestsWithin v 64
  result_nests class method v r = fits_nest 64 r.fits (result_flat names program accepted class method r.table r.sig r.has_table r.has_method)

  created_nests : (class : ℕ) (args : List Value) (v : Value) → IsCreated tables class args v → NestsWithin v 64
  created_nests class args v created = subst (λ v. NestsWithin v 64) (sym created.is) (entity_nests (record { class = class; key = created.key }) 64)

  answer_nests : (asked : Act) (v : Value) → OutcomeFits tables asked (outcome.Value v) → NestsWithin v 64
  answer_nests (act.Call class key method args) v fits = result_nests class method v fits
  answer_nests (act.New class args) v fits = created_nests class args v fits

  pub outcome_spelt : (asked : Act) (o : Outcome) → OutcomeFits tables asked o → OutcomeIsShort o → IsSpeltOutcome o
  outcome_spelt asked (outcome.Value v) fits short = (short, answer_nests asked v fits)
  outcome_spelt asked (outcome.Failed f) fits short = ((fits.least, fits.most), short)
