-- Calls and creations on the whole state, and calls within one record.
use Rattle.std.specs.Prelude.{ℕ, zero, suc, Bool, true, List, [], ◌∷◌, ◌++◌, Some, None, slice_get, if◌then◌else◌}
use Rattle.std.specs.declared.option.Option.{Option}
use Rattle.std.specs.FinMap as map
use Rattle.py_tree.specs.PlainStatements.{PlainStmt, PAssign, PAssert, stmts_of}
use Rattle.py_tree.specs.PlainProgram.{PlainParam, PlainMethod}
use Rattle.sf_value.specs.Keys.{Key}
use Rattle.sf_value.specs.declared.value.Value.{Value}
use Rattle.sf_value.specs.declared.value.Value.TheVariants as value
use Rattle.program_meaning.specs.declared.vars.Var.{Var}
use Rattle.program_meaning.specs.ClassTables.{Source, methods_of, init_of, key_param_of}
use Rattle.py_tree.specs.ClassRules.{body_of, params_of}
use Rattle.program_meaning.specs.World.{World, Calls, Own, Gives, Got, Fell, ◌>>=◌, step, step_limit, recursion_error, no_entity, already_exists, assertion_error, result_of, reading, writing, record_at, value_at}
use Rattle.program_meaning.specs.Operations.{is_true, text_of}
use Rattle.program_meaning.specs.Evaluation.{Site, entity, eval}
use Rattle.program_meaning.specs.Execution.{message, act_all}

-- the arguments as the first locals
unfoldable pub bound : List PlainParam → List Value → List Var
bound [] args = []
bound (p ∷ ps) [] = []
bound (p ∷ ps) (v ∷ args) = record { name = record { 0 = p.name }; value = v } ∷ bound ps args

-- the body of a method
unfoldable pub run_body : {W : Type 0} → Site W → Option PlainMethod → List Value → W → ℕ → Gives W Value
run_body s method args w n = result_of (act_all s (stmts_of (body_of method)) (bound (params_of method) args) w n)

-- Creations

-- the record that `__init__` has made so far is a world of its own, in which no call is open
abbrev pub record_so_far : Own (List Value)
record_so_far = record { fields = λ fields. fields; put = λ before fields. fields }

-- no call may be open
abbrev pub no_calls : {W : Type 0} → Calls W
no_calls = record { call = λ at method args w n. Fell recursion_error w n; make = λ class args w n. Fell recursion_error w n }

abbrev pub making : Source → Key → Site (List Value)
making src me = record { src = src; own = record_so_far; calls = no_calls; me = me }

-- a statement of `__init__`: a step, and then the value of a declaration stands behind the fields that there are
unfoldable pub declare : Source → Key → PlainStmt → List Var → List Value → ℕ → Gives (List Value) Value
declare src me (PAssign at x ty e) vars fields n = step n (Fell step_limit fields n) (λ n. eval (making src me) e vars fields n >>= λ v fields n. Got value.Nil (fields ++ v ∷ []) n)
declare src me (PAssert at test e) vars fields n =
    step n (Fell step_limit fields n) (λ n.
    eval (making src me) test vars fields n >>= λ v fields n.
    if is_true v then Got value.Nil fields n else (message (making src me) e vars fields n >>= λ text fields n. Fell (assertion_error text) fields n))
declare src me _ vars fields n = step n (Fell step_limit fields n) (λ n. Got value.Nil fields n)

unfoldable pub declare_all : Source → Key → List PlainStmt → List Var → List Value → ℕ → Gives (List Value) Value
declare_all src me [] vars fields n = Got value.Nil fields n
declare_all src me (x ∷ xs) vars fields n = declare src me x vars fields n >>= λ v fields n. declare_all src me xs vars fields n

-- the record that `__init__` makes of arguments
abbrev pub made_record : Source → Key → List Value → ℕ → Gives (List Value) Value
made_record src at args n = declare_all src at (body_of (init_of src at.0)) (bound (params_of (init_of src at.0)) args) [] n

-- the entity that a creation with these arguments makes
abbrev pub new_key : Source → ℕ → List Value → Key
new_key src class args = (class, text_of (value_at args (key_param_of src class)))

-- the record is made, or its making failed, and then nothing was written
abbrev pub made : Key → World → Gives (List Value) Value → Gives World Value
made at w (Got v fields n) = Got (entity at) (writing w at fields) n
made at w (Fell e fields n) = Fell e w n

-- the first where there is no such entity, else the second
abbrev pub if_there : {A : Type 0} → Option (List Value) → A → A → A
if_there None absent present = absent
if_there (Some fields) absent present = present

-- the entity is read; it must not be there
unfoldable pub create : Source → Key → List Value → World → ℕ → Gives World Value
create src at args w n =
    if_there (map.get w.state at)
    (made at (reading w at) (made_record src at args n))
    (Fell already_exists (reading w at) n)

-- Calls on the whole state

abbrev pub own_at : Key → Own World
own_at me = record { fields = λ w. record_at w me; put = λ w fields. writing w me fields }

abbrev pub in_state : Source → Calls World → Key → Site World
in_state src calls me = record { src = src; own = own_at me; calls = calls; me = me }

-- the entity is read; it has to be there
unfoldable pub enter : Source → Calls World → Key → ℕ → List Value → World → ℕ → Gives World Value
enter src calls at method args w n =
    if_there (map.get w.state at) (Fell no_entity (reading w at) n)
    (run_body (in_state src calls at) (slice_get (methods_of src at.0) method) args (reading w at) n)

-- a call, or a creation: a step, then the depth, then the entity; this many more may be open
unfoldable pub calls_at : Source → ℕ → Calls World
calls_at src zero = record {
  call = λ at method args w n. step n (Fell step_limit w n) (λ n. Fell recursion_error w n);
  make = λ class args w n. step n (Fell step_limit w n) (λ n. Fell recursion_error w n);
}
calls_at src (suc d) = record {
  call = λ at method args w n. step n (Fell step_limit w n) (λ n. enter src (calls_at src d) at method args w n);
  make = λ class args w n. step n (Fell step_limit w n) (λ n. create src (new_key src class args) args w n);
}

-- Calls within one record

-- a record, and whether a field of it was assigned
pub record Held : Type 0 where
  pub fields : List Value
  pub wrote : Bool

abbrev pub own_held : Own Held
own_held = record { fields = λ h. h.fields; put = λ h fields. record { fields = fields; wrote = true } }

-- code that doesn't suspend calls methods of its own entity alone, and makes nothing; this many more may be open
unfoldable pub calls_within : {W : Type 0} → Own W → Source → Key → ℕ → Calls W
calls_within own src me zero = record {
  call = λ at method args w n. step n (Fell step_limit w n) (λ n. Fell recursion_error w n);
  make = λ class args w n. Fell recursion_error w n;
}
calls_within own src me (suc d) = record {
  call = λ at method args w n. step n (Fell step_limit w n) (λ n. run_body (record { src = src; own = own; calls = calls_within own src me d; me = me }) (slice_get (methods_of src me.0) method) args w n);
  make = λ class args w n. Fell recursion_error w n;
}

abbrev pub on_record : Source → Key → ℕ → Site Held
on_record src me d = record { src = src; own = own_held; calls = calls_within own_held src me d; me = me }

-- what holds of code on the whole state, on one record, and on one that is being made
abbrev pub InEachWorld : (Type 0 → Type 0) → Type 0
InEachWorld P = P World × P Held × P (List Value)
