-- What a disk in memory keeps of its mounts.
use Rattle.std.specs.Prelude.{ℕ, List, [], ◌∷◌, Some, bytes_eq, if◌then◌else◌}
use Rattle.std.specs.declared.option.Option.{Option}
use Rattle.sf_outside.specs.Causes.{next_count}
use Rattle.sf_outside.specs.DiskModel.{Mounts}
use Rattle.sf_outside.specs.Named.{value_named}

-- a name, and how many mounts of it were refused
pub record RefusedName : Type 0 where
  pub name : List ℕ
  pub count : ℕ

-- how many mounts succeeded, the name and the moment of the last, and the names that were refused
pub record MountState : Type 0 where
  pub count : ℕ
  pub name : Option (List ℕ)
  pub moment : ℕ
  pub refusals : List RefusedName

-- how many mounts of a name were refused
abbrev pub refusals_of : List RefusedName → List ℕ → ℕ
refusals_of refusals name = value_named (λ refused. refused.name) (λ refused. refused.count) 0 refusals name

-- the names after one more refusal: the first of that name counts it, and a new name stands behind the others
abbrev pub refusals_with : List RefusedName → List ℕ → List RefusedName
refusals_with [] name = record { name = name; count = 1 } ∷ []
refusals_with (refusal ∷ rest) name =
    if bytes_eq refusal.name name then record refusal { count = next_count refusal.count } ∷ rest else refusal ∷ refusals_with rest name

-- as every disk tells it
abbrev pub mounts_of : MountState → Mounts
mounts_of state = record { count = state.count; name = state.name; moment = state.moment; refused = refusals_of state.refusals }

-- one more succeeded
abbrev pub with_mount : MountState → List ℕ → ℕ → MountState
with_mount state name moment = record { count = next_count state.count; name = Some name; moment = moment; refusals = state.refusals }

-- one more was refused
abbrev pub with_refusal : MountState → List ℕ → MountState
with_refusal state name = record state { refusals = refusals_with state.refusals name }
