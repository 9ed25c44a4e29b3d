-- When an engine may be asked to take requests and to plan batches.
use Rattle.block_step.specs.CompiledViews.{IsWhole}
use Rattle.engine.specs.declared.engine.Engine.{Engine}
use Rattle.engine.specs.Cores.{CoreFits}
use Rattle.engine.specs.EngineViews.{core_of, tables_of}

-- it runs a whole program, and its core fits this
pub record IsReady (e : Engine) : Type 0 where
  pub whole : IsWhole e.compiled
  pub fits : CoreFits (tables_of e) (core_of e)
