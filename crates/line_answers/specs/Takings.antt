-- What an engine that takes what a line asks, or not, leaves of what a session hands on.
use Rattle.std.specs.Prelude.{◌≡◌}
use Rattle.engine.specs.declared.engine.Engine.{Engine}
use Rattle.engine.specs.Cores.{CoreFits}
use Rattle.engine.specs.Growth.{GrowsSerially}
use Rattle.engine.specs.EngineViews.{core_of, source_of, tables_of, compiled_of, limit_of, fresh_of, RunsProgram}
use Rattle.batch_replies.specs.Vocabulary.{logged_of, IsStorable}

-- it runs the same program, what is logged stays, its core grows serially, and what fitted and could be stored does and can
pub record Takes (old new : Engine) : Type 0 where
  pub runs : RunsProgram new (compiled_of old) (limit_of old)
  pub logged : logged_of new ≡ logged_of old
  pub fits : CoreFits (tables_of old) (core_of old) → CoreFits (tables_of old) (core_of new)
  pub grows : GrowsSerially (source_of old) (core_of old) (core_of new)
  pub storable : IsStorable (core_of old) (fresh_of old) → IsStorable (core_of new) (fresh_of new)
