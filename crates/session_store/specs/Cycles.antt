-- When checkpoints come: one after so many batches each.
use Rattle.std.specs.Prelude.{◌≡◌, ℕ, ◌+◌, ◌-◌, ◌^◌, ◌<◌, ◌/◌, ◌%◌, min, nat_le, ⊤, Some, None, if◌then◌else◌}
use Rattle.std.specs.declared.option.Option.{Option}
use Rattle.session_store.specs.declared.store.Store.{Store}
use Rattle.session_store.specs.declared.store.StoreSettings.{StoreSettings}

-- where a store is between two checkpoints
pub record Cycle : Type 0 where
  pub settings : StoreSettings
  pub epoch : ℕ
  pub since : ℕ

abbrev pub cycle_of : Option Store → Option Cycle
cycle_of None = None
cycle_of (Some store) = Some (record { settings = store.settings; epoch = store.position.epoch; since = store.since })

-- the last epoch has no checkpoint behind it
abbrev pub epoch_after : ℕ → ℕ
epoch_after epoch = min (epoch + 1) (2 ^ 63 - 1)

-- one batch more
abbrev pub with_batch : Cycle → Cycle
with_batch c =
    if nat_le c.settings.every (c.since + 1) then record { settings = c.settings; epoch = epoch_after c.epoch; since = 0 }
    else record { settings = c.settings; epoch = c.epoch; since = c.since + 1 }

abbrev pub next_cycle : Option Cycle → Option Cycle
next_cycle None = None
next_cycle (Some c) = Some (with_batch c)

-- behind so many batches of a session a checkpoint followed every so many of them
pub record IsBehind (c : Cycle) (batches : ℕ) : Type 0 where
  pub since : c.since ≡ batches % c.settings.every
  pub epoch : c.epoch ≡ min (c.settings.opened + batches / c.settings.every) (2 ^ 63 - 1)

-- as long as the count of batches holds
abbrev pub IsCycleBehind : Option Cycle → ℕ → Type 0
IsCycleBehind None batches = ⊤
IsCycleBehind (Some c) batches = batches < 2 ^ 64 - 1 → IsBehind c batches

abbrev pub IsInCycle : Option Store → ℕ → Type 0
IsInCycle store batches = IsCycleBehind (cycle_of store) batches
