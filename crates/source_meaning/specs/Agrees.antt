-- What the interpreter returns is what the meaning says, unless memory ran out.
use Rattle.std.specs.Prelude.{◌≡◌, ℕ, List, Ok, Err}
use Rattle.std.specs.declared.result.Result.{Result}
use Rattle.sf_value.specs.declared.value.Value.{Value}
use Rattle.sf_value.specs.declared.value.Value.TheVariants as value
use Rattle.sf_value.specs.declared.Failure.{Failure}
use Rattle.source_meaning.specs.declared.Stop.{Stop}
use Rattle.source_meaning.specs.declared.Stop.TheVariants as stop
use Rattle.source_meaning.specs.declared.statements.Flow.{Flow}
use Rattle.source_meaning.specs.declared.statements.Flow.TheVariants as flow
use Rattle.program_meaning.specs.declared.vars.Var.{Var}
use Rattle.program_meaning.specs.World.{World, Gives, Got, Fell, Ends, Goes, Returns, Breaks, Continues, Fails, told}

-- it stops for this failure, or for want of memory
abbrev pub FailsAs : Stop → Failure → Type 0
FailsAs stop.NoMemory f = Unit {0}
FailsAs (stop.Failed e) f = e ≡ f

abbrev pub FallsIn : {W A : Type 0} → Stop → W → ℕ → Gives W A → Type 0
FallsIn stop.NoMemory w n g = Unit {0}
FallsIn (stop.Failed f) w n g = g ≡ Fell f w n

-- what an expression or a call gives, in the world that it leaves and with the steps that are left
abbrev pub AgreesIn : {W A : Type 0} → Result A Stop → W → ℕ → Gives W A → Type 0
AgreesIn (Ok x) w n g = g ≡ Got x w n
AgreesIn (Err e) w n g = FallsIn e w n g

-- a result that needs no world
abbrev pub Tells : Result Value Stop → Result Value Failure → Type 0
Tells r x = (w : World) (n : ℕ) → AgreesIn r w n (told x w n)

-- it stops for this failure with the locals of that moment, or for want of memory
abbrev pub FailsIn : Stop → List Var → World → ℕ → Ends World → Type 0
FailsIn stop.NoMemory vars w n e = Unit {0}
FailsIn (stop.Failed f) vars w n e = e ≡ Fails f vars w n

-- how statements end, with the locals and the world that they leave, and the steps that are left
abbrev pub EndsIn : Result Flow Stop → List Var → World → ℕ → Ends World → Type 0
EndsIn (Ok flow.On) vars w n e = e ≡ Goes vars w n
EndsIn (Ok (flow.Gave v)) vars w n e = e ≡ Returns v w n
EndsIn (Ok flow.Broke) vars w n e = e ≡ Breaks vars w n
EndsIn (Ok flow.Continued) vars w n e = e ≡ Continues vars w n
EndsIn (Err stopped) vars w n e = FailsIn stopped vars w n e

-- a record is made, or its making fails
abbrev pub MakesIn : {T : Type 0} → Result T Stop → List Value → ℕ → Gives (List Value) Value → Type 0
MakesIn (Ok x) fields n g = g ≡ Got value.Nil fields n
MakesIn (Err stopped) fields n g = FallsIn stopped fields n g

abbrev pub FallsWith : Stop → ℕ → Gives (List Value) Value → Type 0
FallsWith stop.NoMemory n g = Unit {0}
FallsWith (stop.Failed f) n g = (fields : List Value) × (g ≡ Fell f fields n)

-- the record that is made; what there was of one that isn't finished is lost
abbrev pub GivesRecord : Result (List Value) Stop → ℕ → Gives (List Value) Value → Type 0
GivesRecord (Ok fields) n g = g ≡ Got value.Nil fields n
GivesRecord (Err stopped) n g = FallsWith stopped n g
