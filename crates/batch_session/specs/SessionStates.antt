-- When a session is ready for its next step, and what its faults of writing say.
use Rattle.std.specs.Prelude.{◌≡◌, ℕ, ◌≤◌, ◌<◌, ◌⊎◌, Bool, true, length}
use Rattle.sf_outside.specs.Causes.{Rose}
use Rattle.engine.specs.EngineViews.{core_of}
use Rattle.session_store.specs.Cycles.{IsInCycle}
use Rattle.session_steps.specs.Vocabulary.{CanGoOn, SessionState}

-- behind so many batches the next request can come: fewer wait than a batch may have, it can go on, and checkpoints came in their turn
pub record IsReady (s : SessionState) (batches : ℕ) : Type 0 where
  pub few : length (core_of s.engine).pending < 256
  pub can_go_on : CanGoOn s
  pub in_cycle : IsInCycle s.store batches

-- the faults of the output and of the trace: where something couldn't be written, one of the two rose
pub record WritesOn (failed : Bool) (out out' err err' : ℕ) : Type 0 where
  pub later : out ≤ out'
  pub later_err : err ≤ err'
  pub cause : failed ≡ true → Rose out out' ⊎ Rose err err'
