-- What the calls that read a line answer.
use Rattle.std.specs.Prelude.{◌≡◌, Ok, Err}
use Rattle.std.specs.declared.result.Result.{Result}
use Rattle.request_json.specs.declared.fault.LineFault.{LineFault}
use Rattle.request_json.specs.declared.fault.LineError.{LineError}
use Rattle.request_json.specs.declared.fault.LineError.TheVariants.{Fault, NoMemory}

-- a call gives exactly this, or refuses exactly as this does; want of memory is free
abbrev pub Gives : {A : Type 0} → Result A LineFault → Result A LineError → Type 0
Gives told (Ok x) = told ≡ Ok x
Gives told (Err (Fault fault)) = told ≡ Err fault
Gives told (Err NoMemory) = Unit {0}

-- a call that takes no memory gives what shows this, or refuses as this does
abbrev pub Shows : {X A : Type 0} → (X → A) → Result A LineFault → Result X LineFault → Type 0
Shows show told (Ok x) = told ≡ Ok (show x)
Shows show told (Err fault) = told ≡ Err fault
