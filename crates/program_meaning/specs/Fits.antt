-- What fits the classes of a program, by their tables: values fit types, records classes, states and requests the program, and
-- outcomes their requests.
use Rattle.std.specs.Prelude.{◌≡◌, ℕ, ◌≤◌, ℤ, Bool, List, [], ◌∷◌, map as over, Some, slice_get}
use Rattle.std.specs.FinMap as map
use Rattle.py_tree.specs.PlainTypes.{PlainTy, TInt, TBool, TStr, TNil, TList, TOptional, TEntity}
use Rattle.py_tree.specs.ClassRules.{PlainTable, PlainSig, PlainSigParam}
use Rattle.sf_value.specs.Keys.{Key}
use Rattle.sf_value.specs.declared.value.Ref.{Ref}
use Rattle.sf_value.specs.declared.value.Value.{Value}
use Rattle.sf_value.specs.declared.value.Value.TheVariants as value
use Rattle.sf_value.specs.declared.Act.{Act}
use Rattle.sf_value.specs.declared.Act.TheVariants as act
use Rattle.sf_value.specs.declared.Failure.{Failure}
use Rattle.sf_value.specs.declared.Outcome.{Outcome}
use Rattle.sf_value.specs.declared.Outcome.TheVariants as outcome
use Rattle.program_meaning.specs.World.{State}

-- the class of this number has this table
abbrev pub HasTable : List PlainTable → ℕ → PlainTable → Type 0
HasTable tables class t = slice_get tables class ≡ Some t

mutual
  -- a value fits a type; an entity fits its class's type, also where no such entity exists
  pub data Fits (tables : List PlainTable) : PlainTy → Value → Type 0 where
    int : (z : ℤ) → Fits tables TInt (value.Int z)
    bool : (b : Bool) → Fits tables TBool (value.Bool b)
    str : (text : List ℕ) → Fits tables TStr (value.Str text)
    nil : Fits tables TNil value.Nil
    list : {element : PlainTy} {vs : List Value} → AllFit tables element vs → Fits tables (TList element) (value.List vs)
    none : {inner : PlainTy} → Fits tables (TOptional inner) value.Nil
    some : {inner : PlainTy} {v : Value} → Fits tables inner v → Fits tables (TOptional inner) v
    entity : {t : PlainTable} (at : Ref) → HasTable tables at.class t → Fits tables (TEntity t.name) (value.Entity at)

  -- each of these values fits the type
  pub data AllFit (tables : List PlainTable) : PlainTy → List Value → Type 0 where
    empty : {element : PlainTy} → AllFit tables element []
    more : {element : PlainTy} {v : Value} {vs : List Value} → Fits tables element v → AllFit tables element vs → AllFit tables element (v ∷ vs)

-- as many values as types, and each value fits its type
pub data EachFits (tables : List PlainTable) : List PlainTy → List Value → Type 0 where
  no_value : EachFits tables [] []
  one_more : {ty : PlainTy} {types : List PlainTy} {v : Value} {vs : List Value} → Fits tables ty v → EachFits tables types vs → EachFits tables (ty ∷ types) (v ∷ vs)

abbrev pub field_types : PlainTable → List PlainTy
field_types t = over (λ f. f.ty) t.fields

abbrev pub param_types : List PlainSigParam → List PlainTy
param_types params = over (λ p. p.ty) params

-- a record fits the class of this number: each field has a value that fits its type
pub record RecordFits (tables : List PlainTable) (class : ℕ) (fields : List Value) : Type 0 where
  pub table : PlainTable
  pub has_table : HasTable tables class table
  pub fit : EachFits tables (field_types table) fields

-- a state fits: the record of each entity that there is fits its class
pub record StateFits (tables : List PlainTable) (s : State) : Type 0 where
  pub each : (at : Key) (fields : List Value) → map.get s at ≡ Some fields → RecordFits tables at.0 fields

-- a call fits: there are the class and the method of these numbers, and the arguments fit the method's parameters
pub record CallFits (tables : List PlainTable) (class method : ℕ) (args : List Value) : Type 0 where
  pub table : PlainTable
  pub has_table : HasTable tables class table
  pub sig : PlainSig
  pub has_method : slice_get table.methods method ≡ Some sig
  pub fit : EachFits tables (param_types sig.params) args

-- a creation fits: there is the class of this number, and the arguments fit the parameters of its `__init__`
pub record NewFits (tables : List PlainTable) (class : ℕ) (args : List Value) : Type 0 where
  pub table : PlainTable
  pub has_table : HasTable tables class table
  pub fit : EachFits tables (param_types table.init) args

-- what is asked fits the program
abbrev pub ActFits : List PlainTable → Act → Type 0
ActFits tables (act.Call class key method args) = CallFits tables class method args
ActFits tables (act.New class args) = NewFits tables class args

-- a failure has a number from 1 to 12
pub record FailureFits (f : Failure) : Type 0 where
  pub least : 1 ≤ f.kind
  pub most : f.kind ≤ 12

-- a value fits the result type of the method that is called
pub record ResultFits (tables : List PlainTable) (class method : ℕ) (v : Value) : Type 0 where
  pub table : PlainTable
  pub has_table : HasTable tables class table
  pub sig : PlainSig
  pub has_method : slice_get table.methods method ≡ Some sig
  pub fits : Fits tables sig.result v

-- a value is the entity of this class whose key is the argument at the key's place
pub record IsCreated (tables : List PlainTable) (class : ℕ) (args : List Value) (v : Value) : Type 0 where
  pub table : PlainTable
  pub has_table : HasTable tables class table
  pub key : List ℕ
  pub has_key : slice_get args table.key_param ≡ Some (value.Str key)
  pub is : v ≡ value.Entity (record { class = class; key = key })

-- a value fits what was asked
abbrev pub AnswerFits : List PlainTable → Act → Value → Type 0
AnswerFits tables (act.Call class key method args) v = ResultFits tables class method v
AnswerFits tables (act.New class args) v = IsCreated tables class args v

-- what a request comes to fits it
abbrev pub OutcomeFits : List PlainTable → Act → Outcome → Type 0
OutcomeFits tables asked (outcome.Value v) = AnswerFits tables asked v
OutcomeFits tables asked (outcome.Failed f) = FailureFits f
