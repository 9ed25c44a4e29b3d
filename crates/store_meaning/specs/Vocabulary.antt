-- The definitions of lower crates that the crates above this one name from here.
pub use Rattle.engine.specs.Batches.{after_batch}
pub use Rattle.engine.specs.Cores.{Core, CoreFits, empty_core}
pub use Rattle.engine.specs.EngineViews.{RunsProgram, compiled_of, core_of, fresh_of, limit_of, source_of, tables_of}
pub use Rattle.engine.specs.Kept.{SnapshotFits, core_of_snapshot}
pub use Rattle.engine.specs.PlanReplays.{ReplaysPlan}
pub use Rattle.engine.specs.Plans.{IsPlanOf}
pub use Rattle.engine.specs.RanBatches.{accesses_on}
pub use Rattle.engine.specs.Replays.{replayed, settled}
pub use Rattle.engine.specs.declared.engine.Engine.{Engine}
pub use Rattle.engine.specs.declared.planned.Planned.{Planned}
