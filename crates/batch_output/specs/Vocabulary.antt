-- The definitions of lower crates that the crates above this one name from here.
pub use Rattle.engine.specs.Batches.{IsSplit, after_batch, batch_entries, entry_on, other_places, replies_from, requests_at}
pub use Rattle.engine.specs.Cores.{Core, CoreFits, IsSoundCore}
pub use Rattle.engine.specs.EngineViews.{RunsProgram, compiled_of, core_of, fresh_of, limit_of, source_of, tables_of}
pub use Rattle.engine.specs.Growth.{GoesOnSerially, GrowsSerially}
pub use Rattle.engine.specs.Plans.{IsPlanOf}
pub use Rattle.engine.specs.RanBatches.{accesses_on}
pub use Rattle.engine.specs.Replays.{settled}
pub use Rattle.engine.specs.Vocabulary.{Batch, IsToldAlong, batch_of}
pub use Rattle.engine.specs.declared.engine.Engine.{Engine}
pub use Rattle.engine.specs.declared.planned.Planned.{Planned}
