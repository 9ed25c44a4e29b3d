-- How the items of a block end, where the method then is.
use Rattle.std.specs.Prelude.{ℕ, List}
use Rattle.program_meaning.specs.declared.vars.Var.{Var}
use Rattle.program_meaning.specs.World.{Ends, Goes, Returns, Breaks, Continues, Fails}
use Rattle.program_meaning.specs.Calls.{Held}
use Rattle.block_code.specs.PlainBlocks.{PlainItem}
use Rattle.block_runs.specs.BlockRuns.{run_item, run_items}
use Rattle.source_meaning.specs.declared.here.Ended.{Ended}
use Rattle.source_meaning.specs.HereAnswers.{EndsHere}
use Rattle.event_step.specs.declared.method.Place.{Place}
use Rattle.event_step.specs.declared.method.Running.{Running}
use Rattle.event_step.specs.Running.{site_of, held_of}

abbrev pub item_at : Place → PlainItem → Running → Ends Held
item_at place i r = run_item (site_of place) i r.vars (held_of r) r.steps

abbrev pub items_at : Place → List PlainItem → Running → Ends Held
items_at place is r = run_items (site_of place) is r.vars (held_of r) r.steps

-- items end so, unless they leave a loop outside, which those of a block that comes to something don't
abbrev pub EndsSo : Ended → List Var → Held → ℕ → Ends Held → Type 0
EndsSo x vars h n (Goes us g m) = EndsHere x vars h n (Goes us g m)
EndsSo x vars h n (Returns v g m) = EndsHere x vars h n (Returns v g m)
EndsSo x vars h n (Breaks us g m) = Unit {0}
EndsSo x vars h n (Continues us g m) = Unit {0}
EndsSo x vars h n (Fails f us g m) = EndsHere x vars h n (Fails f us g m)

abbrev pub EndsNow : Ended → Running → Ends Held → Type 0
EndsNow x r e = EndsSo x r.vars (held_of r) r.steps e
