-- Values are light: none that an expression gives weighs more than a value may.
use Rattle.std.specs.Prelude.{ℕ, ◌+◌, ◌≤◌, List, [], ◌∷◌, length}
use Rattle.std.specs.Str.{encode_utf8_all}
use Rattle.std.specs.declared.option.Option.{Option}
use Rattle.py_tree.specs.PlainExpressions.{PlainExpr}
use Rattle.py_tree.specs.PlainStatements.{PlainOver}
use Rattle.py_tree.specs.PlainProgram.{PlainMethod}
use Rattle.sf_value.specs.Keys.{Key}
use Rattle.sf_value.specs.Weight.{weight_of}
use Rattle.sf_value.specs.declared.value.Value.{Value}
use Rattle.sf_value.specs.declared.Act.{Act}
use Rattle.sf_value.specs.declared.Outcome.{Outcome}
use Rattle.sf_value.specs.declared.Outcome.TheVariants as outcome
use Rattle.program_meaning.specs.declared.vars.Var.{Var}
use Rattle.program_meaning.specs.ClassTables.{Source}
use Rattle.program_meaning.specs.World.{State, Own, Calls, Gives, Got, Fell}
use Rattle.program_meaning.specs.Evaluation.{Site, eval}
use Rattle.program_meaning.specs.Execution.{Turns, Items, Numbers, turns_of}
use Rattle.program_meaning.specs.Calls.{run_body, calls_at, calls_within}
use Rattle.program_meaning.specs.RequestRun.{run}

-- a value weighs no more than it may
pub record IsLight (v : Value) : Type 0 where
  pub most : weight_of v ≤ 65536

-- each of these values does
pub data AreLight : List Value → Type 0 where
  no_value : AreLight []
  one_more : {v : Value} {vs : List Value} → IsLight v → AreLight vs → AreLight (v ∷ vs)

-- what is given is light, where something is
abbrev pub GivesLight : {W : Type 0} → Gives W Value → Type 0
GivesLight (Got v w n) = IsLight v
GivesLight (Fell f w n) = Unit {0}

-- so are the items that a `for` goes over
abbrev pub GivesLightTurns : {W : Type 0} → Gives W Turns → Type 0
GivesLightTurns (Got (Items vs) w n) = AreLight vs
GivesLightTurns (Got (Numbers from to) w n) = Unit {0}
GivesLightTurns (Fell f w n) = Unit {0}

-- calls give light values, and creations of light arguments do
pub record CallsGiveLight {W : Type 0} (calls : Calls W) : Type 0 where
  pub call : (at : Key) (method : ℕ) (args : List Value) (w : W) (n : ℕ) → GivesLight (calls.call at method args w n)
  pub make : (class : ℕ) (args : List Value) (w : W) (n : ℕ) → AreLight args → GivesLight (calls.make class args w n)

-- an expression gives a light value where calls do, whatever the locals and records hold
abbrev pub ExpressionsAreLight : Type 0 → Type 0
ExpressionsAreLight W = (s : Site W) → CallsGiveLight s.calls → (e : PlainExpr) (vars : List Var) (w : W) (n : ℕ) → GivesLight (eval s e vars w n)

-- what a `for` goes over is light
abbrev pub ItemsAreLight : Type 0 → Type 0
ItemsAreLight W = (s : Site W) → CallsGiveLight s.calls → (over : PlainOver) (vars : List Var) (w : W) (n : ℕ) → GivesLightTurns (turns_of s over vars w n)

-- the body of a method gives a light value
abbrev pub BodiesAreLight : Type 0 → Type 0
BodiesAreLight W = (s : Site W) → CallsGiveLight s.calls → (method : Option PlainMethod) (args : List Value) (w : W) (n : ℕ) → GivesLight (run_body s method args w n)

-- calls on the whole state give light values
abbrev pub CallsAreLight : Type 0
CallsAreLight = (src : Source) (d : ℕ) → CallsGiveLight (calls_at src d)

-- so do those within one record, however it is reached
abbrev pub OwnCallsAreLight : Type 0 → Type 0
OwnCallsAreLight W = (own : Own W) (src : Source) (me : Key) (d : ℕ) → CallsGiveLight (calls_within own src me d)

-- the value weighs no more than it may, or else the message of the failure, which weighs what a value with its text does
abbrev pub OutcomeIsLight : Outcome → Type 0
OutcomeIsLight (outcome.Value v) = IsLight v
OutcomeIsLight (outcome.Failed f) = 1 + length (encode_utf8_all f.message) ≤ 65536

-- what a request comes to is light
abbrev pub RunsAreLight : Type 0
RunsAreLight = (src : Source) (s : State) (asked : Act) → OutcomeIsLight (run src s asked).outcome
