-- Requests come to short outcomes and leave short states.
use Rattle.std.proofs.Common.{◌≡◌, Bool, true, false, [], ◌∷◌, if◌then◌else◌, refl, sym, ◌∙◌}
use Rattle.std.specs.FinMap as map
use Rattle.std.proofs.lemmas.Option.{none-some}
use Rattle.sf_value.specs.Keys.{key_cmp}
use Rattle.sf_value.specs.declared.Act.{Act}
use Rattle.sf_value.specs.declared.Act.TheVariants as act
use Rattle.sf_value.specs.declared.value.Value.{Value}
use Rattle.program_meaning.specs.ClassTables.{Source}
use Rattle.program_meaning.specs.World.{State, World, Gives, Got, Fell}
use Rattle.program_meaning.specs.RequestRun.{Ran, run, begin, ended, refused, at_first, is_too_heavy, depth_limit, steps_at_first}
use Rattle.program_meaning.specs.Serial.{serial_outcomes, serial_state}
use Rattle.program_meaning.specs.LightValues.{IsLight}
use Rattle.program_meaning.proofs.LightRuns.{are_light, args_light}
use Rattle.short_runs.specs.ShortRuns.{OutcomeIsShort, StateIsShort, FirstIsShort, RunsAreShort, SerialIsShort}
use Rattle.short_runs.proofs.ShortValues.{light_short, no_text_short}
use Rattle.short_runs.proofs.ShortCode.{GivesShort, got, fell}
use Rattle.short_runs.proofs.ShortCalls.{HasShortState, calls_keep}

pub first_is_short : FirstIsShort
first_is_short = record { each = λ at fields e. absurd (none-some fields (sym (map.get-empty key_cmp at) ∙ e)) }

-- what a run comes to, and the state that it leaves
abbrev IsShortRun : Ran → Type 0
IsShortRun ran = OutcomeIsShort ran.outcome × StateIsShort ran.state

begin_short : (src : Source) (s : State) (asked : Act) → StateIsShort s → is_too_heavy asked ≡ false → GivesShort HasShortState IsLight (begin src asked s)
unfolding begin
begin_short src s (act.Call class key method args) short light = (calls_keep src depth_limit).call (class, key) method args (at_first s) steps_at_first short
begin_short src s (act.New class args) short light = (calls_keep src depth_limit).make class args (at_first s) steps_at_first (are_light args (args_light (act.New class args) light)) short

ended_short : (s : State) (g : Gives World Value) → StateIsShort s → GivesShort HasShortState IsLight g → IsShortRun (ended s g)
ended_short s (Got v w n) short (got light after) = (light_short v light, after)
ended_short s (Fell f w n) short (fell text after) = (text, short)

pub runs_are_short : RunsAreShort
unfolding run
runs_are_short src s asked short = by (is_too_heavy asked) refl
  where
    by : (b : Bool) → is_too_heavy asked ≡ b → IsShortRun (if b then refused s else ended s (begin src asked s))
    by true e = (no_text_short, short)
    by false e = ended_short s (begin src asked s) short (begin_short src s asked short e)

pub serial_is_short : SerialIsShort
unfolding serial_outcomes serial_state
serial_is_short src s [] short = (tt, short)
serial_is_short src s (r ∷ rs) short =
    let first = runs_are_short src s r short in
    let later = serial_is_short src (run src s r).state rs first.1 in
    ((first.0, later.0), later.1)
