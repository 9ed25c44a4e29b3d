-- Real requests on a real state come to what is real, and leave a real state.
use Rattle.std.proofs.Common.{◌≡◌, false, [], ◌∷◌, refl, sym, ◌∙◌}
use Rattle.std.specs.FinMap as map
use Rattle.std.proofs.lemmas.Option.{none-some}
use Rattle.sf_value.specs.Keys.{key_cmp}
use Rattle.sf_value.specs.declared.Act.{Act}
use Rattle.sf_value.specs.declared.Act.TheVariants as act
use Rattle.sf_value.specs.declared.Outcome.{Outcome}
use Rattle.sf_value.specs.declared.Outcome.TheVariants as outcome
use Rattle.byte_sizes.specs.Spelt.{IsReal, IsRealAct, IsRealOutcome}
use Rattle.program_meaning.specs.World.{State}
use Rattle.program_meaning.specs.RequestRun.{run, is_too_heavy}
use Rattle.program_meaning.specs.Serial.{serial_outcomes, serial_state}
use Rattle.program_meaning.proofs.LightRuns.{args_light}
use Rattle.program_meaning.proofs.KeptCalls.{StateHolds, OutcomeKept, ActGiven, run_kept}
use Rattle.short_runs.specs.RealRuns.{StateIsReal, FirstIsReal, RunsAreReal, SerialIsReal}
use Rattle.short_runs.proofs.RealValues.{each_both}
use Rattle.short_runs.proofs.RealKinds.{real_kinds, program_real}

pub first_is_real : FirstIsReal
first_is_real = record { each = λ at fields e. absurd (none-some fields (sym (map.get-empty key_cmp at) ∙ e)) }

holds : (s : State) → StateIsReal s → StateHolds real_kinds s
unfolding IsReal
holds s real = record { each = λ at fields e. real.each at fields e }

is_real : (s : State) → StateHolds real_kinds s → StateIsReal s
unfolding IsReal
is_real s holds = record { each = λ at fields e. holds.each at fields e }

given : (asked : Act) → IsRealAct asked → is_too_heavy asked ≡ false → ActGiven real_kinds asked
unfolding IsReal
given (act.Call class key method args) real light = each_both args (args_light (act.Call class key method args) light) real.1.1.1
given (act.New class args) real light = ((real.0, refl), each_both args (args_light (act.New class args) light) real.1)

outcome_real : (o : Outcome) → OutcomeKept real_kinds o → IsRealOutcome o
outcome_real (outcome.Value v) is = is.real
outcome_real (outcome.Failed f) said = said

pub runs_are_real : RunsAreReal
runs_are_real src accepted program s asked real act_real =
    let ran = run_kept real_kinds src (program_real src accepted program) s asked (holds s real) (given asked act_real) in
    (outcome_real (run src s asked).outcome ran.0, is_real (run src s asked).state ran.1)

pub serial_is_real : SerialIsReal
unfolding serial_outcomes serial_state
serial_is_real src accepted program s [] real all = (tt, real)
serial_is_real src accepted program s (r ∷ rs) real all =
    let first = runs_are_real src accepted program s r real all.0 in
    let later = serial_is_real src accepted program (run src s r).state rs first.1 all.1 in
    ((first.0, later.0), later.1)
