-- What the interpreter answers of code that runs on one record.
use Rattle.std.specs.Prelude.{◌≡◌, ℕ, List, Ok, Err}
use Rattle.std.specs.declared.result.Result.{Result}
use Rattle.sf_value.specs.declared.value.Value.{Value}
use Rattle.sf_value.specs.declared.value.Value.TheVariants as value
use Rattle.sf_value.specs.declared.Outcome.{Outcome}
use Rattle.sf_value.specs.declared.Outcome.TheVariants as outcome
use Rattle.source_meaning.specs.declared.Stop.{Stop}
use Rattle.source_meaning.specs.declared.Stop.TheVariants as stop
use Rattle.source_meaning.specs.declared.statements.Flow.{Flow}
use Rattle.source_meaning.specs.declared.statements.Flow.TheVariants as flow
use Rattle.source_meaning.specs.declared.here.Ended.{Ended}
use Rattle.source_meaning.specs.declared.here.Ended.TheVariants as ended
use Rattle.source_meaning.specs.declared.here.Made.{Made}
use Rattle.source_meaning.specs.declared.here.Made.TheVariants as making
use Rattle.program_meaning.specs.declared.vars.Var.{Var}
use Rattle.program_meaning.specs.World.{Gives, Got, Fell, Ends, Goes, Returns, Fails}
use Rattle.program_meaning.specs.Calls.{Held}
use Rattle.program_meaning.specs.Here.{at_end}

-- how the code ends, with the locals and the record that it leaves, and the steps that are left; one that returns leaves no locals
abbrev pub EndsHere : Ended → List Var → Held → ℕ → Ends Held → Type 0
EndsHere ended.On vars h n e = at_end e ≡ Goes vars h n
EndsHere (ended.Returned v) vars h n e = e ≡ Returns v h n
EndsHere (ended.Failed f) vars h n e = e ≡ Fails f vars h n

-- how code ends whose statements end so, unless memory ran out
abbrev pub EndedAs : Result Flow Stop → Ended → Type 0
EndedAs (Ok flow.On) x = x ≡ ended.On
EndedAs (Ok (flow.Gave v)) x = x ≡ ended.Returned v
EndedAs (Ok flow.Broke) x = x ≡ ended.On
EndedAs (Ok flow.Continued) x = x ≡ ended.On
EndedAs (Err stop.NoMemory) x = ⊥
EndedAs (Err (stop.Failed f)) x = x ≡ ended.Failed f

-- what an expression comes to that gives this, unless memory ran out
abbrev pub ComesTo : Result Value Stop → Outcome → Type 0
ComesTo (Ok v) x = x ≡ outcome.Value v
ComesTo (Err stop.NoMemory) x = ⊥
ComesTo (Err (stop.Failed f)) x = x ≡ outcome.Failed f

-- the record that a creation makes, or its failure, and the steps that are left; of a record that isn't finished nothing is left
abbrev pub MakesHere : Made → ℕ → Gives (List Value) Value → Type 0
MakesHere (making.Record r) n g = g ≡ Got value.Nil r.fields n
MakesHere (making.Failed f) n g = (fields : List Value) × (g ≡ Fell f fields n)

-- what a creation comes to whose record is made so, unless memory ran out
abbrev pub MadeAs : Result (List Value) Stop → Made → Type 0
MadeAs (Ok fields) x = x ≡ making.Record (record { fields = fields })
MadeAs (Err stop.NoMemory) x = ⊥
MadeAs (Err (stop.Failed f)) x = x ≡ making.Failed f
