-- A method from one of its blocks on: one block, and then what follows it.
use Rattle.std.proofs.Common.{◌≡◌, ◌<◌, ◌+◌, ◌*◌, ◌-◌, ℕ, zero, suc, Some, None, Ok, List, sym, ◌∙◌, subst}
use Rattle.std.specs.Prelude.{slice_get}
use Rattle.std.proofs.lemmas.Option.{none-some}
use Rattle.program_meaning.specs.Calls.{own_held}
use Rattle.program_meaning.specs.StepsLeft.{CallsTakeSteps}
use Rattle.program_meaning.specs.RequestRun.{depth_limit}
use Rattle.program_meaning.specs.Sources.{source_of}
use Rattle.program_meaning.proofs.StepsTaken.{own_calls_take}
use Rattle.sf_value.specs.Keys.{key_of}
use Rattle.block_code.specs.PlainBlocks.{PlainBlock}
use Rattle.block_runs.specs.BlockRuns.{run_items, run_end, fall, behind, at_block, run_blocks}
use Rattle.block_runs.specs.EventStep.{Part as BlockPart}
use Rattle.block_runs.proofs.Ranks.{above}
use Rattle.event_step.specs.declared.method.Place.{Place}
use Rattle.event_step.specs.declared.method.Running.{Running}
use Rattle.event_step.specs.declared.method.Part.{Part}
use Rattle.event_step.specs.declared.method.Turn.TheVariants as turn
use Rattle.event_step.specs.Running.{site_of, room_of, held_of}
use Rattle.event_step.specs.Turns.{Goings, exits_of, block_at, ComesAs, TurnsAs, RanksFall, Runs, CanRun}
use Rattle.event_step.proofs.LowerRanks.{rank_of, left, guarded, less_left, block_too, begins}

takes_of : (place : Place) → CallsTakeSteps (site_of place).calls
takes_of place = own_calls_take own_held (source_of place.program.now) (key_of place.me.now) (depth_limit - place.depth)

module _ (place : Place) (blocks : List PlainBlock) (ranks : RanksFall blocks) (number : ℕ) (b : PlainBlock) (is : slice_get blocks number ≡ Some b) (before r : Running) where
  abbrev go_with : ℕ → Goings
  go_with fuel = run_blocks (site_of place) (exits_of place) blocks fuel

  run_once : (fuel : ℕ) (p : BlockPart) → go_with fuel number before.vars (held_of before) before.steps ≡ Some p → (k : ℕ) × (block_at place number b before (go_with k) ≡ Some p)
  unfolding run_blocks
  run_once zero p h = absurd (none-some p h)
  run_once (suc fuel) p h = (
    fuel,
    subst
        (λ o. at_block o (λ b vars w n. behind (exits_of place) (run_items (site_of place) b.code vars w n) (run_end (site_of place) (exits_of place) number (go_with fuel) (fall (exits_of place) b.catches (go_with fuel)) b.end) (fall (exits_of place) b.catches (go_with fuel)))
        before.vars (held_of before) before.steps
        ≡ Some p)
        is h,
  )

  -- where it goes on less is left, and it comes to the same part
  pub goes_on : (next : ℕ) → TurnsAs (Ok (turn.Goes next)) r (block_at place number b before) → (p : BlockPart) → Runs place blocks number before p → (left blocks next r.steps < left blocks number before.steps) × Runs place blocks next r p
  goes_on next turns p runs =
      let once : (k : ℕ) × (block_at place number b before (go_with k) ≡ Some p) = run_once runs.fuel p runs.by in
      let less : block_at place number b before (guarded blocks (before.steps * above blocks + b.rank) (go_with once.0)) ≡ Some p =
      block_too (site_of place) (takes_of place) (room_of place) blocks ranks (go_with once.0) (λ to vars h m p h'. begins (site_of place) (room_of place) blocks once.0 to vars h m p h') number b is before.steps before.vars (held_of before) p once.1 in
      let both : (left blocks next r.steps < before.steps * above blocks + b.rank) × (go_with once.0 next r.vars (held_of r) r.steps ≡ Some p) =
      less_left blocks (before.steps * above blocks + b.rank) next (go_with once.0) r.vars (held_of r) r.steps p (turns (guarded blocks (before.steps * above blocks + b.rank) (go_with once.0)) p less) in
      (subst (λ o. left blocks next r.steps < before.steps * above blocks + rank_of o) (sym is) both.0, record { fuel = once.0; by = both.1 })

  pub ends_there : (x : Part) → TurnsAs (Ok (turn.Ends x)) r (block_at place number b before) → (p : BlockPart) → Runs place blocks number before p → ComesAs x r p
  ends_there x turns p runs = let once : (k : ℕ) × (block_at place number b before (go_with k) ≡ Some p) = run_once runs.fuel p runs.by in turns (go_with once.0) p once.1

-- a method that can run has a block to begin with
pub is_there : (place : Place) (blocks : List PlainBlock) (number : ℕ) (r : Running) → CanRun place blocks number r → slice_get blocks number ≡ None → ⊥
is_there place blocks number r can none =
    let first : (target : PlainBlock) × (slice_get blocks number ≡ Some target) = begins (site_of place) (room_of place) blocks can.runs.fuel number r.vars (held_of r) r.steps can.part can.runs.by in
    none-some first.0 (sym none ∙ first.1)
