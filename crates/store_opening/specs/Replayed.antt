-- Batches of a log run again, up to the first that can't follow.
use Rattle.std.specs.Prelude.{ℕ, ◌≡◌, List, ◌∷◌, ◌++◌, ⊤}
use Rattle.snapshot_store.specs.SlotFile.{log_of}
use Rattle.recovery.specs.declared.opened.Placed.{Placed}
use Rattle.recovery.specs.StoreImage.{batches_of}
use Rattle.engine.specs.Cores.{Core}
use Rattle.engine.specs.Replays.{BatchFits}
use Rattle.store_meaning.specs.StandsFor.{Program, tables_of, Replays}
use Rattle.store_opening.specs.declared.replaying.ReplayStop.{ReplayStop}
use Rattle.store_opening.specs.declared.replaying.ReplayStop.TheVariants as of_log
use Rattle.store_opening.specs.declared.stop.OpenStop.{OpenStop}
use Rattle.store_opening.specs.declared.stop.OpenStop.TheVariants.{DiskFault, Bad, OtherProgram, NoMemory}

-- the batch at this place is told as wrong only where it can't follow
abbrev pub IsWrongAt : Type 0 → ℕ → ReplayStop → Type 0
IsWrongAt fits place (of_log.Wrong at) = (fits → ⊥) × (at ≡ place)
IsWrongAt fits place of_log.NoMemory = ⊤

-- the batches before one at this place make a core which it can't follow
pub record HasFirstWrong (p : Program) (core : Core) (batches : List Placed) (at : ℕ) : Type 0 where
  pub before : List Placed
  pub placed : Placed
  pub after : List Placed
  pub middle : Core
  pub split : batches ≡ before ++ placed ∷ after
  pub replays : Replays p core (batches_of before) middle
  pub wrong : BatchFits (tables_of p) middle placed.batch → ⊥
  pub place : at ≡ placed.at

abbrev pub HasWrongAmong : Program → Core → List Placed → ReplayStop → Type 0
HasWrongAmong p core batches (of_log.Wrong at) = HasFirstWrong p core batches at
HasWrongAmong p core batches of_log.NoMemory = ⊤

-- the store of this epoch isn't opened, as a batch of its log can't follow, or for want of memory
abbrev pub IsBrokenOff : Program → Core → List Placed → ℕ → OpenStop → Type 0
IsBrokenOff p core batches epoch (Bad file at) = HasFirstWrong p core batches at × (file ≡ log_of epoch)
IsBrokenOff p core batches epoch NoMemory = ⊤
IsBrokenOff p core batches epoch DiskFault = ⊥
IsBrokenOff p core batches epoch OtherProgram = ⊥
