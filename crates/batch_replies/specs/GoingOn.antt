-- What a session hands on from call to call: what each call finds of its engine, its store and its disk, and what it leaves there.
use Rattle.std.specs.Prelude.{◌≡◌, ℕ, ◌≤◌, ◌⊎◌, Bool, true, List}
use Rattle.std.specs.declared.option.Option.{Option}
use Rattle.sf_outside.specs.Causes.{Rose}
use Rattle.sf_outside.specs.DiskModel.{DiskFacts, Mounts}
use Rattle.serial_order.specs.ConflictFree.{Access}
use Rattle.reservations.specs.CommitRules.{Chosen}
use Rattle.block_step.specs.CompiledViews.{IsWhole}
use Rattle.batch_output.specs.Vocabulary.{Engine, CoreFits, GrowsSerially, core_of, source_of, tables_of, compiled_of, limit_of, fresh_of, RunsProgram}
use Rattle.session_store.specs.declared.store.Store.{Store}
use Rattle.session_store.specs.Vocabulary.{logged_of, IsStorable}
use Rattle.session_store.specs.Endings.{KeepsWhere, next_core}
use Rattle.session_store.specs.Stores.{settings_of, Keeps, EndsPast}

-- its engine, its store, and of its disk the files, the faults so far and the mounts so far
pub record SessionState : Type 1 where
  pub engine : Engine
  pub store : Option Store
  pub facts : DiskFacts
  pub faults : ℕ
  pub mounts : Mounts

abbrev pub state_of : Engine → Option Store → DiskFacts → ℕ → Mounts → SessionState
state_of engine store facts faults mounts = record { engine = engine; store = store; facts = facts; faults = faults; mounts = mounts }

-- a call may be made: the program is whole, what the engine keeps fits it and can be stored, and the store has what is logged
pub record CanGoOn (s : SessionState) : Type 0 where
  pub whole : IsWhole (compiled_of s.engine)
  pub fits : CoreFits (tables_of s.engine) (core_of s.engine)
  pub storable : IsStorable (core_of s.engine) (fresh_of s.engine)
  pub kept : Keeps s.store (source_of s.engine) (logged_of s.engine) s.facts

-- A call was made: the program goes on, what the engine keeps fits it, grows serially and can be stored, and the store has what is logged. Where the disk
-- failed the store may have the next batch already, and that has a cause.
pub record GoesOn (rule : List Access → Chosen) (failed : Bool) (old new : SessionState) : Type 0 where
  pub runs : RunsProgram new.engine (compiled_of old.engine) (limit_of old.engine)
  pub fits : CoreFits (tables_of old.engine) (core_of new.engine)
  pub grows : GrowsSerially (source_of old.engine) (core_of old.engine) (core_of new.engine)
  pub storable : IsStorable (core_of new.engine) (fresh_of new.engine)
  pub kept : KeepsWhere failed new.store (source_of new.engine) (logged_of new.engine) (next_core rule (source_of new.engine) (core_of new.engine)) new.facts
  pub settings : settings_of new.store ≡ settings_of old.store
  pub later : old.faults ≤ new.faults
  pub cause : failed ≡ true → Rose old.faults new.faults ⊎ EndsPast rule new.store (source_of new.engine) (core_of new.engine) (fresh_of new.engine) new.facts
  pub mounts : new.mounts ≡ old.mounts
