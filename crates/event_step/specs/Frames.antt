-- Frames, as the definition of an event has them.
use Rattle.std.specs.Prelude.{◌≡◌, ◌==◌, ℕ, Bool, false, List, Some, None}
use Rattle.std.specs.List.{list_any}
use Rattle.std.specs.declared.option.Option.{Option}
use Rattle.py_tree.specs.ClassRules.{PlainTable}
use Rattle.sf_value.specs.declared.Failure.{Failure}
use Rattle.block_code.specs.declared.event.Frame.{Frame}
use Rattle.block_code.specs.declared.vars.VarType.{VarType}
use Rattle.block_code.specs.PlainVars.{PlainVar}
use Rattle.block_code.specs.PlainBlocks.{PlainBlock}
use Rattle.block_code.specs.Places.{block_at}
use Rattle.block_code.specs.EventsFit.{Awaits as PlainAwaits}
use Rattle.block_runs.specs.EventStep.{names_it, up_to, lasts}
use Rattle.event_step.specs.declared.blocks.Awaits.{Awaits}

-- a name is one of those of parameters
abbrev pub has_name : ℕ → List PlainVar → Bool
has_name x params = list_any (λ p. p.name == x) params

-- there is a parameter, of this name
abbrev pub is_named : ℕ → Option VarType → Bool
is_named x None = false
is_named x (Some p) = p.name.0 == x

abbrev pub plain_awaits : Awaits → PlainAwaits
plain_awaits w = record { into = w.into.0; after = w.after }

-- the block at whose end a frame waits has a catch for this failure
abbrev pub is_catching : List PlainTable → List (List PlainBlock) → Failure → Frame → Bool
is_catching tables graph f fr = names_it (block_at tables graph fr.at.class fr.method fr.block) f

-- the frames that stay where this failure goes on
abbrev pub staying : List PlainTable → List (List PlainBlock) → List Frame → Failure → List Frame
staying tables graph frames f = up_to (is_catching tables graph f) frames

-- the last frame is taken out, where there is one
abbrev pub Popped : Option Frame → List Frame → List Frame → Type 0
Popped None before after = lasts before ≡ None
Popped (Some f) before after = lasts before ≡ Some (record { before = after; last = f })
