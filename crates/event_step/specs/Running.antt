-- Where a method runs and how far it is, as the definition of an event has it.
use Rattle.std.specs.Prelude.{◌≡◌, ◌-◌, ℕ, suc, Bool, nat_lt, Some, None}
use Rattle.std.specs.declared.option.Option.{Option}
use Rattle.sf_value.specs.Keys.{key_of}
use Rattle.sf_value.specs.declared.Failure.{Failure}
use Rattle.program_meaning.specs.World.{step_limit}
use Rattle.program_meaning.specs.Evaluation.{Site}
use Rattle.program_meaning.specs.Calls.{Held, on_record}
use Rattle.program_meaning.specs.RequestRun.{depth_limit}
use Rattle.program_meaning.specs.Sources.{source_of}
use Rattle.program_meaning.specs.Here.{held}
use Rattle.event_step.specs.declared.method.Place.{Place}
use Rattle.event_step.specs.declared.method.Running.{Running}

abbrev pub site_of : Place → Site Held
site_of place = on_record (source_of place.program.now) (key_of place.me.now) (depth_limit - place.depth)

-- one more method may wait
abbrev pub room_of : Place → Bool
room_of place = nat_lt place.depth depth_limit

abbrev pub held_of : Running → Held
held_of r = held r.held r.wrote

-- a step was taken, or there was none
abbrev pub StepTaken : Option Failure → ℕ → ℕ → Type 0
StepTaken None before after = before ≡ suc after
StepTaken (Some f) before after = (before ≡ 0) × (after ≡ 0) × (f ≡ step_limit)
