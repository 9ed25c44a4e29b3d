-- The record of a batch that was planned, run again.
use Rattle.std.specs.Prelude.{◌≡◌, ◌≤◌, length}
use Rattle.engine.specs.declared.engine.Engine.{Engine}
use Rattle.engine.specs.declared.planned.Planned.{Planned}
use Rattle.engine.specs.Cores.{CoreFits}
use Rattle.engine.specs.EngineViews.{core_of, source_of, tables_of, fresh_of}
use Rattle.engine.specs.Batches.{after_batch}
use Rattle.engine.specs.Replays.{settled, replayed, BatchFits}
use Rattle.engine.specs.Plans.{IsPlanOf}

-- on the core without the requests that came since the last batch it fits, and it leaves the core that the plan's commit does
pub record ReplaysPlan (e : Engine) (p : Planned) : Type 0 where
  pub fits : BatchFits (tables_of e) (settled (core_of e) (fresh_of e)) p.batch
  pub core : replayed (source_of e) (settled (core_of e) (fresh_of e)) p.batch ≡ after_batch (source_of e) (core_of e) p.batch.committed

-- so it is with each plan that commits something
abbrev pub PlansReplay : Type 0
PlansReplay = (e : Engine) (p : Planned) → IsPlanOf e p → CoreFits (tables_of e) (core_of e) → 1 ≤ length p.batch.committed → ReplaysPlan e p
