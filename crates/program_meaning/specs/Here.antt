-- Code that doesn't suspend, run on one record.
use Rattle.std.specs.Prelude.{◌≡◌, ℕ, Bool}
use Rattle.sf_value.specs.declared.value.Value.{Value}
use Rattle.sf_value.specs.declared.value.Record.{Record}
use Rattle.sf_value.specs.declared.Outcome.{Outcome}
use Rattle.sf_value.specs.declared.Outcome.TheVariants as outcome
use Rattle.program_meaning.specs.World.{Gives, Got, Fell, Ends, Goes, Returns, Breaks, Continues, Fails}
use Rattle.program_meaning.specs.Calls.{Held}

-- a record, and whether a field of it was assigned
abbrev pub held : Record → Bool → Held
held r wrote = record { fields = r.fields; wrote = wrote }

-- a `break` or a `continue` of a loop outside ends the code
abbrev pub at_end : {W : Type 0} → Ends W → Ends W
at_end (Goes vars w n) = Goes vars w n
at_end (Returns v w n) = Returns v w n
at_end (Breaks vars w n) = Goes vars w n
at_end (Continues vars w n) = Goes vars w n
at_end (Fails e vars w n) = Fails e vars w n

-- what an expression comes to, with the record that it leaves, and the steps that are left
abbrev pub GivesHere : Outcome → Held → ℕ → Gives Held Value → Type 0
GivesHere (outcome.Value v) h n g = g ≡ Got v h n
GivesHere (outcome.Failed f) h n g = g ≡ Fell f h n
