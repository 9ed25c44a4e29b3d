-- What the record of a batch in its log makes of what a store stands for.
use Rattle.std.specs.Prelude.{ℕ, ◌≤◌, List, length}
use Rattle.sf_outside.specs.DiskModel.{Image}
use Rattle.sf_value.specs.declared.BatchRecord.{BatchRecord}
use Rattle.request_log.specs.Appends.{StaysClosed, HasRecord}
use Rattle.request_log.specs.LogFile.{gate_behind, IsBatch}
use Rattle.recovery.specs.StoreSteps.{LogSteps}
use Rattle.engine.specs.Cores.{Core}
use Rattle.engine.specs.Replays.{replayed, BatchFits}
use Rattle.store_meaning.specs.declared.position.Position.{Position}
use Rattle.store_meaning.specs.StandsFor.{Program, tables_of, StandsFor}

-- these are the bytes of a batch that can follow this core
pub record CanFollow (p : Program) (core : Core) (body : List ℕ) (batch : BatchRecord) : Type 0 where
  pub spells : IsBatch body batch
  pub fits : BatchFits (tables_of p) core batch

-- the gate behind a record of so many bytes
abbrev pub behind : Position → List ℕ → Position
behind position body = record position { at = gate_behind position.at (length body) }

-- A new store has no log yet.
abbrev pub BatchStands : Type 0
BatchStands = (p : Program) (before now : Image) (core : Core) (position : Position) (body : List ℕ) (batch : BatchRecord)
    → StandsFor p before core position → 1 ≤ position.epoch → CanFollow p core body batch
    → LogSteps position.epoch (HasRecord position.at body) before now
    → StandsFor p now (replayed p.source core batch) (behind position body)

abbrev pub ClosedGateStands : Type 0
ClosedGateStands = (p : Program) (before now : Image) (core : Core) (position : Position)
    → StandsFor p before core position → 1 ≤ position.epoch → LogSteps position.epoch (StaysClosed position.at) before now
    → StandsFor p now core position
