-- When a batch that has run is a plan of an engine: all that its commit moves is made, and there is room for it.
use Rattle.std.specs.Prelude.{◌≡◌, ℕ, ◌+◌, ◌-◌, ◌≤◌, ◌<◌, ◌^◌, true, ◌++◌, drop, length}
use Rattle.program_meaning.specs.ClassTables.{Source}
use Rattle.program_meaning.specs.Serial.{acts_of, outcomes_of, serial_outcomes, ids_differ}
use Rattle.keyed_state.specs.Works.{are_places}
use Rattle.engine.specs.declared.engine.Engine.{Engine}
use Rattle.engine.specs.declared.planned.Planned.{Planned}
use Rattle.engine.specs.declared.planned.PlanFault.{PlanFault}
use Rattle.engine.specs.declared.planned.PlanFault.TheVariants.{HistoryFull, NoMemory}
use Rattle.engine.specs.Cores.{Core}
use Rattle.engine.specs.EngineViews.{core_of, source_of}
use Rattle.engine.specs.Batches.{IsSplit, batch_entries, after_batch, replies_from}
use Rattle.engine.specs.Moves.{moved, HasRoomFor}

-- the entries of a batch are a serial run from the state before it, and its ids are new
pub record IsSerialBatch (src : Source) (core : Core) (p : Planned) : Type 0 where
  pub outcomes : outcomes_of p.moves.entries ≡ serial_outcomes src core.state (acts_of p.moves.entries)
  pub ids : ids_differ (core.history ++ p.moves.entries) ≡ true

-- what its commit moves is made: the entries, works at the committed places, and what makes the core behind the batch
pub record IsMade (src : Source) (core : Core) (p : Planned) : Type 0 where
  pub once : IsSplit core p.batch.committed
  pub entries : p.moves.entries ≡ batch_entries src core p.batch.committed
  pub there : are_places (length p.moves.works) p.batch.committed ≡ true
  pub behind : moved core p.moves p.batch.committed ≡ after_batch src core p.batch.committed

-- what is told of it: the requests that came since the last batch, and the replies
pub record IsTold (core : Core) (fresh : ℕ) (p : Planned) : Type 0 where
  pub news : p.batch.news ≡ drop (length core.pending - fresh) core.pending
  pub replies : p.replies ≡ replies_from (length core.history + 1) p.moves.entries

-- there is room for it: in the history for all that waited, and for what is moved without memory
pub record HasRoom (e : Engine) (p : Planned) : Type 0 where
  pub limit : length (core_of e).history + length (core_of e).pending ≤ e.limit
  pub places : length (core_of e).history + length (core_of e).pending < 2 ^ 32
  pub moves : HasRoomFor e p.moves p.batch.committed

pub record IsPlanOf (e : Engine) (p : Planned) : Type 0 where
  pub serial : IsSerialBatch (source_of e) (core_of e) p
  pub made : IsMade (source_of e) (core_of e) p
  pub told : IsTold (core_of e) e.fresh p
  pub room : HasRoom e p

-- a batch isn't planned where the history has no place for as many entries as requests wait, and is else but for want of memory
abbrev pub IsFault : Engine → PlanFault → Type 0
IsFault e (HistoryFull history pending) = (history ≡ length (core_of e).history) × (pending ≡ length (core_of e).pending) × (e.limit < history + pending)
IsFault e NoMemory = length (core_of e).history + length (core_of e).pending ≤ e.limit
