-- What fits the types of an accepted program can be stored, where it is light.
use Rattle.std.specs.Prelude.{ℕ, ◌+◌, ◌^◌, ◌<◌, ◌≤◌, List, length}
use Rattle.py_tree.specs.PlainTypes.{PlainTy, TInt, TBool, TStr, TNil, TList, TOptional, TEntity}
use Rattle.py_tree.specs.PlainProgram.{PlainProgram}
use Rattle.py_tree.specs.ClassRules.{PlainTable, tables_of}
use Rattle.sf_value.specs.declared.value.Value.{Value}
use Rattle.sf_value.specs.declared.Act.{Act}
use Rattle.sf_value.specs.declared.Held.{Held}
use Rattle.sf_value.specs.declared.Outcome.{Outcome}
use Rattle.sf_value.specs.declared.Outcome.TheVariants as outcome
use Rattle.byte_sizes.specs.Spelt.{IsShortText, NestsWithin, IsReal, IsRealOutcome, IsRealHeld, IsReadValue, IsReadOutcome, IsReadHeld}
use Rattle.program_meaning.specs.Fits.{Fits, RecordFits, OutcomeFits}
use Rattle.program_meaning.specs.LightValues.{IsLight, AreLight}
use Rattle.program_meaning.specs.NothingGoesWrong.{IsKnownAccepted}

-- how deep a type nests
abbrev pub type_nesting : PlainTy → ℕ
type_nesting TInt = 0
type_nesting TBool = 0
type_nesting TStr = 0
type_nesting TNil = 0
type_nesting (TList element) = 1 + type_nesting element
type_nesting (TOptional inner) = 1 + type_nesting inner
type_nesting (TEntity class) = 0

-- lists of what fits a type nest no deeper than the type does
abbrev pub ValuesNestAsTypes : Type 0
ValuesNestAsTypes = (tables : List PlainTable) (ty : PlainTy) (v : Value) (level : ℕ) → Fits tables ty v → type_nesting ty ≤ level → NestsWithin v level

-- a light value that fits a type has a spelling
abbrev pub ValuesHaveSpellings : Type 0
ValuesHaveSpellings = (tables : List PlainTable) (ty : PlainTy) (v : Value) → Fits tables ty v → type_nesting ty ≤ 64 → IsLight v → IsReal v → IsReadValue v

-- the value that a request comes to is light
abbrev pub HasLightValue : Outcome → Type 0
HasLightValue (outcome.Value v) = IsLight v
HasLightValue (outcome.Failed f) = Unit {0}

-- the message of a failure can be counted
abbrev pub HasShortMessage : Outcome → Type 0
HasShortMessage (outcome.Value v) = Unit {0}
HasShortMessage (outcome.Failed f) = IsShortText f.message

-- what a request comes to has one
abbrev pub OutcomesHaveSpellings : Type 0
OutcomesHaveSpellings =
    (names : List (List ℕ)) (program : PlainProgram) → IsKnownAccepted names program → (asked : Act) (o : Outcome) → OutcomeFits (tables_of names program) asked o
    → HasLightValue o → HasShortMessage o → IsRealOutcome o → IsReadOutcome o

-- a record's key and fields can be counted
pub record IsCounted (held : Held) : Type 0 where
  pub key : IsShortText held.at.key
  pub fields : length held.fields.fields < 2 ^ 32

-- a record with its entity has one
abbrev pub RecordsHaveSpellings : Type 0
RecordsHaveSpellings =
    (names : List (List ℕ)) (program : PlainProgram) → IsKnownAccepted names program → (held : Held) → RecordFits (tables_of names program) held.at.class held.fields.fields
    → AreLight held.fields.fields → IsCounted held → IsRealHeld held → IsReadHeld held
