-- Which part of an engine's core a store stands for: all of it but the requests that came since the last batch.
use Rattle.std.specs.Prelude.{ℕ, ◌≡◌, ◌≤◌, length}
use Rattle.sf_value.specs.declared.Request.{Request}
use Rattle.engine.specs.Arrivals.{after_arrival, fresh_after}
use Rattle.engine.specs.Cores.{Core}
use Rattle.engine.specs.Replays.{settled}

-- a request that arrives changes nothing of it
abbrev pub ArrivalsUnlogged : Type 0
ArrivalsUnlogged = (core : Core) (fresh : ℕ) (r : Request) → fresh ≤ length core.pending
    → settled (after_arrival core r) (fresh_after core r fresh) ≡ settled core fresh

-- where none came it is the whole core
abbrev pub NoneUnlogged : Type 0
NoneUnlogged = (core : Core) → settled core 0 ≡ core
