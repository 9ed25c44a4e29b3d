-- What follows a block, and what a part of a method comes to, where the method then is.
use Rattle.std.specs.Prelude.{◌≡◌, ℕ, Bool, false, if◌then◌else◌, List, Some, None, IfOk}
use Rattle.std.specs.declared.option.Option.{Option}
use Rattle.std.specs.declared.result.Result.{Result}
use Rattle.std.specs.List.{All, list_any}
use Rattle.std.specs.declared.alloc.AllocError.{AllocError}
use Rattle.sf_value.specs.Keys.{Key, key_of}
use Rattle.sf_value.specs.declared.Failure.{Failure}
use Rattle.sf_value.specs.declared.value.Value.{Value}
use Rattle.program_meaning.specs.World.{step, step_limit, recursion_error}
use Rattle.py_tree.specs.PlainExpressions.{PlainExpr, PlainExprs}
use Rattle.program_meaning.specs.Calls.{Held}
use Rattle.block_code.specs.PlainBlocks.{PlainEnd, ECall, EMake, PlainCatch, PlainBlock}
use Rattle.block_code.specs.GraphFits.{takes_step, BelowRank, NextAreBelow}
use Rattle.block_runs.specs.BlockRuns.{Go, Fall, Exits, run_items, run_end, fall, behind, run_blocks}
use Rattle.block_runs.specs.EventStep.{Part as BlockPart, Gave, Failed, Asks, Wants, waiting}
use Rattle.event_step.specs.declared.method.Place.{Place}
use Rattle.event_step.specs.declared.method.Running.{Running}
use Rattle.event_step.specs.declared.method.Part.{Part}
use Rattle.event_step.specs.declared.method.Part.TheVariants as part
use Rattle.event_step.specs.declared.method.Turn.{Turn}
use Rattle.event_step.specs.declared.method.Turn.TheVariants as turn
use Rattle.event_step.specs.Running.{site_of, room_of, held_of}

abbrev pub exits_of : Place → Exits Held BlockPart
exits_of place = waiting (room_of place)

-- what goes on from the block of each number
abbrev pub Goings : Type 0
Goings = ℕ → Go Held BlockPart

-- What is meant, whatever goes on

abbrev pub falling : Place → List PlainCatch → Goings → Fall Held BlockPart
falling place catches go = fall (exits_of place) catches go

abbrev pub ending_at : Place → ℕ → List PlainCatch → PlainEnd → Running → Goings → Option BlockPart
ending_at place number catches end r go = run_end (site_of place) (exits_of place) number go (falling place catches go) end r.vars (held_of r) r.steps

abbrev pub asking_at : Place → ℕ → List PlainCatch → Key → ℕ → List Value → Running → Goings → Option BlockPart
asking_at place number catches to called args r go =
    step r.steps (falling place catches go step_limit r.vars (held_of r) r.steps) (λ n.
    if room_of place then Some (Asks to called args number r.vars (held_of r) n) else falling place catches go recursion_error r.vars (held_of r) n)

abbrev pub wanting_at : Place → ℕ → List PlainCatch → ℕ → List Value → Running → Goings → Option BlockPart
wanting_at place number catches class args r go =
    step r.steps (falling place catches go step_limit r.vars (held_of r) r.steps) (λ n.
    if room_of place then Some (Wants class args number r.vars (held_of r) n) else falling place catches go recursion_error r.vars (held_of r) n)

abbrev pub block_at : Place → ℕ → PlainBlock → Running → Goings → Option BlockPart
block_at place number b r go =
    behind (exits_of place) (run_items (site_of place) b.code r.vars (held_of r) r.steps)
    (run_end (site_of place) (exits_of place) number go (falling place b.catches go) b.end)
    (falling place b.catches go)

-- What is returned

-- the number of a called method is the one that the end of the block has
abbrev pub ComesAs : Part → Running → BlockPart → Type 0
ComesAs (part.Gave v) r p = p ≡ Gave v (held_of r) r.steps
ComesAs (part.Failed f) r p = p ≡ Failed f (held_of r) r.steps
ComesAs (part.Asks to args number) r p = (called : ℕ) × (p ≡ Asks (key_of to) called args number r.vars (held_of r) r.steps)
ComesAs (part.Wants class args number) r p = p ≡ Wants class args number r.vars (held_of r) r.steps

abbrev pub TurnsTo : Turn → Goings → Running → BlockPart → Type 0
TurnsTo (turn.Goes to) go r p = go to r.vars (held_of r) r.steps ≡ Some p
TurnsTo (turn.Ends x) go r p = ComesAs x r p

-- whatever goes on: where this comes to a part, so does what is returned
abbrev pub TurnsAs : Result Turn AllocError → Running → (Goings → Option BlockPart) → Type 0
TurnsAs result r meant = (go : Goings) (p : BlockPart) → meant go ≡ Some p → IfOk result (λ t. TurnsTo t go r p)

-- whatever is called, and whatever goes on with its result
abbrev pub CallsAs : Result Turn AllocError → Place → ℕ → List PlainCatch → PlainExpr → PlainExprs → Running → Running → Type 0
CallsAs result place number catches on args before after =
    (class method into to : ℕ) → TurnsAs result after (ending_at place number catches (ECall on class method args into to) before)

abbrev pub MakesAs : Result Turn AllocError → Place → ℕ → List PlainCatch → ℕ → PlainExprs → Running → Running → Type 0
MakesAs result place number catches class args before after =
    (into to : ℕ) → TurnsAs result after (ending_at place number catches (EMake class args into to) before)

abbrev pub FallsAs : Turn → List PlainCatch → Failure → Type 0
FallsAs t catches f =
    (room : Bool) (r : Running) (go : Goings) (p : BlockPart) → fall (waiting room) catches go f r.vars (held_of r) r.steps ≡ Some p → TurnsTo t go r p

-- a call or a creation took its step and has room, or fails
abbrev pub after_wait : Option Failure → (Failure → ℕ → Option BlockPart) → (ℕ → Option BlockPart) → ℕ → Option BlockPart
after_wait None falls rest n = rest n
after_wait (Some f) falls rest n = falls f n

abbrev pub Waited : Option Failure → Place → ℕ → ℕ → Type 0
Waited failed place before after =
    (falls : Failure → ℕ → Option BlockPart) (rest : ℕ → Option BlockPart)
    → step before (falls step_limit before) (λ n. if room_of place then rest n else falls recursion_error n) ≡ after_wait failed falls rest after

-- A part of a method

-- from the block of this number the method comes to this part, with some fuel
pub record Runs (place : Place) (blocks : List PlainBlock) (number : ℕ) (r : Running) (p : BlockPart) : Type 0 where
  pub fuel : ℕ
  pub by : run_blocks (site_of place) (exits_of place) blocks fuel number r.vars (held_of r) r.steps ≡ Some p

pub record CanRun (place : Place) (blocks : List PlainBlock) (number : ℕ) (r : Running) : Type 0 where
  pub part : BlockPart
  pub runs : Runs place blocks number r part

-- where a block takes no step it goes on at blocks of smaller rank, and where it fails too
pub record RankFalls (blocks : List PlainBlock) (b : PlainBlock) : Type 0 where
  pub ends : list_any takes_step b.code ≡ false → NextAreBelow blocks b.rank b.end
  pub catches : All (λ (k : PlainCatch). BelowRank blocks b.rank k.to) b.catches

abbrev pub RanksFall : List PlainBlock → Type 0
RanksFall blocks = All (RankFalls blocks) blocks
