-- The world that a program of the whole language acts on, and what its parts come to.
use Rattle.std.specs.Prelude.{ℕ, zero, suc, Bool, List, [], ◌∷◌, ◌++◌, Some, None, Ok, Err, nat_eq, slice_get, slice_set, position, unwrap_or}
use Rattle.std.specs.declared.option.Option.{Option}
use Rattle.std.specs.declared.result.Result.{Result}
use Rattle.std.specs.FinMap as map
use Rattle.std.specs.FinSet as set
use Rattle.sf_value.specs.Keys.{Key, key_cmp}
use Rattle.sf_value.specs.declared.value.Value.{Value}
use Rattle.sf_value.specs.declared.value.Value.TheVariants as value
use Rattle.sf_value.specs.declared.Failure.{Failure}
use Rattle.program_meaning.specs.declared.vars.Var.{Var}

-- the values of the fields of each entity that there is
abbrev pub State : Type 0
State = map.FinMap key_cmp (List Value)

abbrev pub Keys : Type 0
Keys = set.FinSet key_cmp

-- the state, and the entities read and written so far; the steps left stand beside it
pub record World : Type 0 where
  pub state : State
  pub reads : Keys
  pub writes : Keys

-- a failure of a kind, without a message
abbrev pub failure : ℕ → Failure
failure kind = record { kind = kind; message = [] }

abbrev pub zero_division_error : Failure
zero_division_error = failure 1

abbrev pub index_error : Failure
index_error = failure 2

-- an assert that doesn't hold, with its message
abbrev pub assertion_error : List ℕ → Failure
assertion_error message = record { kind = 3; message = message }

abbrev pub recursion_error : Failure
recursion_error = failure 4

abbrev pub overflow_error : Failure
overflow_error = failure 5

abbrev pub no_entity : Failure
no_entity = failure 9

abbrev pub already_exists : Failure
already_exists = failure 10

abbrev pub size_limit : Failure
size_limit = failure 11

abbrev pub step_limit : Failure
step_limit = failure 12

-- an expression or a call gives something or fails, in a world with so many steps left
pub data Gives (W A : Type 0) : Type 0 where
  Got : (x : A) → (w : W) → (n : ℕ) → Gives W A
  Fell : (f : Failure) → (w : W) → (n : ℕ) → Gives W A

-- a statement goes on, returns a value, leaves the loop around it or goes to its next turn, or fails with the locals of that moment
pub data Ends (W : Type 0) : Type 0 where
  Goes : (vars : List Var) → (w : W) → (n : ℕ) → Ends W
  Returns : (v : Value) → (w : W) → (n : ℕ) → Ends W
  Breaks : (vars : List Var) → (w : W) → (n : ℕ) → Ends W
  Continues : (vars : List Var) → (w : W) → (n : ℕ) → Ends W
  Fails : (f : Failure) → (vars : List Var) → (w : W) → (n : ℕ) → Ends W

-- what calls and creations do: from the entity, the number of the method and the arguments; from the number of the class and
-- the arguments
pub record Calls (W : Type 0) : Type 0 where
  pub call : Key → ℕ → List Value → W → ℕ → Gives W Value
  pub make : ℕ → List Value → W → ℕ → Gives W Value

-- how code reaches the record of its own entity in a world
pub record Own (W : Type 0) : Type 0 where
  pub fields : W → List Value
  pub put : W → List Value → W

-- takes a step, if there is one
abbrev pub step : {A : Type 0} → ℕ → A → (ℕ → A) → A
step zero none f = none
step (suc n) none f = f n

-- goes on with what was given, or falls
infixl 10 ◌>>=◌
abbrev pub ◌>>=◌ : {W A B : Type 0} → Gives W A → (A → W → ℕ → Gives W B) → Gives W B
Got x w n >>= f = f x w n
Fell e w n >>= f = Fell e w n

-- a result that needs no world
abbrev pub told : {W : Type 0} → Result Value Failure → W → ℕ → Gives W Value
told (Ok v) w n = Got v w n
told (Err e) w n = Fell e w n

-- a statement goes on with what an expression gives, or fails with the locals of that moment
abbrev pub with_given : {W A : Type 0} → List Var → Gives W A → (A → W → ℕ → Ends W) → Ends W
with_given vars (Got x w n) f = f x w n
with_given vars (Fell e w n) f = Fails e vars w n

-- the next statement, where this one goes on
abbrev pub next : {W : Type 0} → Ends W → (List Var → W → ℕ → Ends W) → Ends W
next (Goes vars w n) f = f vars w n
next (Returns v w n) f = Returns v w n
next (Breaks vars w n) f = Breaks vars w n
next (Continues vars w n) f = Continues vars w n
next (Fails e vars w n) f = Fails e vars w n

-- the next turn of a loop, where the body of this one goes on or asks for it
abbrev pub next_turn : {W : Type 0} → Ends W → (List Var → W → ℕ → Ends W) → Ends W
next_turn (Goes vars w n) f = f vars w n
next_turn (Returns v w n) f = Returns v w n
next_turn (Breaks vars w n) f = Goes vars w n
next_turn (Continues vars w n) f = f vars w n
next_turn (Fails e vars w n) f = Fails e vars w n

-- where statements fail, the failure is taken up, with the locals, the world and the steps of that moment
abbrev pub caught : {W : Type 0} → (Failure → List Var → W → ℕ → Ends W) → Ends W → Ends W
caught f (Goes vars w n) = Goes vars w n
caught f (Returns v w n) = Returns v w n
caught f (Breaks vars w n) = Breaks vars w n
caught f (Continues vars w n) = Continues vars w n
caught f (Fails e vars w n) = f e vars w n

-- a method that falls off its end gives None
abbrev pub result_of : {W : Type 0} → Ends W → Gives W Value
result_of (Goes vars w n) = Got value.Nil w n
result_of (Returns v w n) = Got v w n
result_of (Breaks vars w n) = Got value.Nil w n
result_of (Continues vars w n) = Got value.Nil w n
result_of (Fails e vars w n) = Fell e w n

abbrev pub is_named : ℕ → Var → Bool
is_named x v = nat_eq v.name.0 x

abbrev pub value_of_var : Option Var → Value
value_of_var None = value.Nil
value_of_var (Some v) = v.value

abbrev pub var_at : List Var → Option ℕ → Value
var_at vars None = value.Nil
var_at vars (Some i) = value_of_var (slice_get vars i)

-- the value of a local; the rules refuse a name without one
unfoldable pub local_value : List Var → ℕ → Value
local_value vars x = var_at vars (position (is_named x) vars)

abbrev pub placed : List Var → Option ℕ → Var → List Var
placed vars None v = vars ++ v ∷ []
placed vars (Some i) v = slice_set vars i v

-- the locals after an assignment: a new name stands behind the others
unfoldable pub assigned : List Var → ℕ → Value → List Var
assigned vars x v = placed vars (position (is_named x) vars) (record { name = record { 0 = x }; value = v })

-- the record of an entity; there is one where it is called
abbrev pub record_at : World → Key → List Value
record_at w me = unwrap_or (map.get w.state me) []

-- the value of a field by its name; the rules refuse a name that is no field
abbrev pub value_at : List Value → Option ℕ → Value
value_at fields None = value.Nil
value_at fields (Some i) = unwrap_or (slice_get fields i) value.Nil

unfoldable pub field_value : List ℕ → List Value → ℕ → Value
field_value names fields x = value_at fields (position (λ y. nat_eq y x) names)

-- the record after a field is assigned
abbrev pub set_at : List Value → Option ℕ → Value → List Value
set_at fields None v = fields
set_at fields (Some i) v = slice_set fields i v

unfoldable pub with_field : List ℕ → List Value → ℕ → Value → List Value
with_field names fields x v = set_at fields (position (λ y. nat_eq y x) names) v

-- the world after the own record has changed
abbrev pub writing : World → Key → List Value → World
writing w me fields = record { state = map.insert w.state me fields; reads = w.reads; writes = set.insert w.writes me }

-- the world after an entity is read, also where it is found missing
abbrev pub reading : World → Key → World
reading w at = record { state = w.state; reads = set.insert w.reads at; writes = w.writes }
