-- What a batch that ran on an engine's core has to be for a plan to be made of it, and what is told of a plan.
use Rattle.std.specs.Prelude.{◌≡◌, ℕ, true, List, map as over, length, Some, None, Ok, Err}
use Rattle.std.specs.declared.result.Result.{Result}
use Rattle.program_meaning.specs.ClassTables.{Source}
use Rattle.serial_order.specs.ConflictFree.{Access, access_of, runs_on}
use Rattle.keyed_state.specs.Works.{are_places}
use Rattle.commit_order.specs.CommittedSerial.{IsSerial}
use Rattle.ordered_runs.specs.Vocabulary.{BatchResult, acts_of, Outside, Batch, own_outcomes, IsToldAlong}
use Rattle.engine.specs.declared.planned.Planned.{Planned}
use Rattle.engine.specs.declared.planned.PlanFault.{PlanFault}
use Rattle.engine.specs.declared.planned.PlanFault.TheVariants.{HistoryFull, NoMemory}
use Rattle.engine.specs.Cores.{Core}
use Rattle.engine.specs.Batches.{other_places, IsSplit}

-- what each request that waits reads and writes, by itself on the state
abbrev pub accesses_on : Source → Core → List Access
accesses_on src core = over access_of (runs_on src core.state (acts_of core.pending))

-- each request that waits ran by itself on the state, and those at the committed places, one after another, are a serial run
pub record IsRun (src : Source) (core : Core) (ran : BatchResult) : Type 0 where
  pub once : IsSplit core ran.committed
  pub carried : ran.carried ≡ other_places (length core.pending) ran.committed
  pub places : are_places (length ran.works) ran.committed ≡ true
  pub outcomes : ran.outcomes ≡ own_outcomes src core.state (acts_of core.pending)
  pub serial : IsSerial src core.state (acts_of core.pending) ran.works ran.committed

-- the chooser was asked, and the watch told, of the events along some picks: of all of them, as many as are counted, where there is a plan;
-- and of none where the history has no place for the batch
abbrev pub TellsPlan : Batch → ℕ → Result Planned PlanFault → Outside → Outside → Type 0
TellsPlan batch parts (Ok p) old new = IsToldAlong batch parts (Some p.events) old new
TellsPlan batch parts (Err (HistoryFull history pending)) old new = new ≡ old
TellsPlan batch parts (Err NoMemory) old new = IsToldAlong batch parts None old new
