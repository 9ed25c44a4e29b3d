-- What expressions of a block come to, where the method then is.
use Rattle.std.specs.Prelude.{◌≡◌, List, [], ◌∷◌, ◌++◌, Some, None}
use Rattle.std.specs.declared.option.Option.{Option}
use Rattle.py_tree.specs.PlainExpressions.{PlainExpr, PlainExprs}
use Rattle.sf_value.specs.declared.Failure.{Failure}
use Rattle.sf_value.specs.declared.value.Value.{Value}
use Rattle.sf_value.specs.declared.Outcome.{Outcome}
use Rattle.program_meaning.specs.World.{Gives, Got, Fell}
use Rattle.program_meaning.specs.Evaluation.{eval, eval_all}
use Rattle.program_meaning.specs.Calls.{Held}
use Rattle.program_meaning.specs.Here.{GivesHere}
use Rattle.block_runs.specs.BlockRuns.{parts_of_call}
use Rattle.event_step.specs.declared.method.Place.{Place}
use Rattle.event_step.specs.declared.method.Running.{Running}
use Rattle.event_step.specs.declared.values.All.{All}
use Rattle.event_step.specs.declared.values.All.TheVariants as all
use Rattle.event_step.specs.declared.values.CallParts.{CallParts}
use Rattle.event_step.specs.declared.values.CallParts.TheVariants as parts
use Rattle.event_step.specs.Running.{site_of, held_of}

-- What is meant

abbrev pub value_at : Place → PlainExpr → Running → Gives Held Value
value_at place e r = eval (site_of place) e r.vars (held_of r) r.steps

abbrev pub values_at : Place → PlainExprs → Running → Gives Held (List Value)
values_at place es r = eval_all (site_of place) es [] r.vars (held_of r) r.steps

-- behind values that there are
abbrev pub added_at : Place → PlainExprs → List Value → Running → Gives Held (List Value)
added_at place es vs r = eval_all (site_of place) es vs r.vars (held_of r) r.steps

abbrev pub parts_at : Place → PlainExpr → PlainExprs → Running → Gives Held (Value × List Value)
parts_at place on args r = parts_of_call (site_of place) on args r.vars (held_of r) r.steps

-- What is returned

abbrev pub GivesNow : Outcome → Running → Gives Held Value → Type 0
GivesNow o r g = GivesHere o (held_of r) r.steps g

-- a value came behind those that there were, or there is a failure
abbrev pub AddsNow : Option Failure → List Value → List Value → Running → Gives Held Value → Type 0
AddsNow None before after r g = (v : Value) × (g ≡ Got v (held_of r) r.steps) × (after ≡ before ++ v ∷ [])
AddsNow (Some f) before after r g = g ≡ Fell f (held_of r) r.steps

abbrev pub AddedNow : Option Failure → List Value → Running → Gives Held (List Value) → Type 0
AddedNow None after r g = g ≡ Got after (held_of r) r.steps
AddedNow (Some f) after r g = g ≡ Fell f (held_of r) r.steps

abbrev pub AllNow : All → Running → Gives Held (List Value) → Type 0
AllNow (all.Given vs) r g = g ≡ Got vs (held_of r) r.steps
AllNow (all.Failed f) r g = g ≡ Fell f (held_of r) r.steps

abbrev pub PartsNow : CallParts → Running → Gives Held (Value × List Value) → Type 0
PartsNow (parts.Given on args) r g = g ≡ Got (on, args) (held_of r) r.steps
PartsNow (parts.Failed f) r g = g ≡ Fell f (held_of r) r.steps
