-- The file of a slot, and what the two slots of an image say together. A slot is closed, or open with an epoch and a
-- head, or bad. Each epoch has a slot and a log, and the epoch after it has the others.
use Rattle.std.specs.Prelude.{ℕ, zero, suc, ◌≡◌, ◌⊎◌, ◌+◌, ◌%◌, ◌≤◌, ◌<◌, ◌^◌, List, ◌∷◌, ◌++◌, length}
use Rattle.sf_bytes.specs.ByteForms.{long_bytes}
use Rattle.sf_bytes.specs.Gates.{open_gate, StandsAt, ClosedAt, OpenAt}
use Rattle.sf_bytes.specs.Heads.{IsHead}
use Rattle.sf_outside.specs.DiskModel.{Image, of_file}
use Rattle.sf_outside.specs.declared.store_disk.StoreFile.{StoreFile}
use Rattle.sf_outside.specs.declared.store_disk.StoreFile.TheVariants.{Log0, Log1, Snap0, Snap1}
use Rattle.sf_value.specs.declared.heads.Head.{Head}

-- ---- epochs

-- what an epoch can be
abbrev pub IsEpoch : ℕ → Type 0
IsEpoch epoch = (1 ≤ epoch) × (epoch < 2 ^ 63)

-- the number of an epoch's slot and log
abbrev pub number_of : ℕ → ℕ
number_of epoch = epoch % 2

-- the files of these numbers, which are 0 and 1
abbrev pub slot_file : ℕ → StoreFile
slot_file zero = Snap0
slot_file (suc n) = Snap1

abbrev pub log_file : ℕ → StoreFile
log_file zero = Log0
log_file (suc n) = Log1

-- the files of an epoch
abbrev pub slot_of : ℕ → StoreFile
slot_of epoch = slot_file (number_of epoch)

abbrev pub log_of : ℕ → StoreFile
log_of epoch = log_file (number_of epoch)

-- ---- one slot

-- at most one byte, whatever it is, or a closed gate
abbrev pub IsClosedSlot : List ℕ → Type 0
IsClosedSlot file = (length file ≤ 1) ⊎ ClosedAt file 0

-- an open gate, and more than that
abbrev pub IsOpenSlot : List ℕ → Type 0
IsOpenSlot file = (1 < length file) × OpenAt file 0

-- a closed gate, and more than that
abbrev pub IsShutSlot : List ℕ → Type 0
IsShutSlot file = (1 < length file) × ClosedAt file 0

-- what stands behind the gate of an open slot: the epoch, the length of the body, and the body
abbrev pub behind_gate : ℕ → List ℕ → List ℕ
behind_gate epoch body = long_bytes epoch ++ long_bytes (length body) ++ body

-- an open gate, and that behind it
abbrev pub slot_bytes : ℕ → List ℕ → List ℕ
slot_bytes epoch body = open_gate ∷ behind_gate epoch body

-- the slot of this number is open with an epoch of its own and a spelling of a head; what is behind that doesn't count
pub record HoldsAt (number : ℕ) (file : List ℕ) (epoch : ℕ) (head : Head) : Type 0 where
  pub body : List ℕ
  pub spells : IsHead body head
  pub stands : StandsAt file 0 (slot_bytes epoch body)
  pub in_range : IsEpoch epoch
  pub own : number_of epoch ≡ number
  pub countable : length body < 2 ^ 64

-- open, and with nothing of that form
abbrev pub IsBadSlot : ℕ → List ℕ → Type 0
IsBadSlot number file = IsOpenSlot file × ((epoch : ℕ) (head : Head) → HoldsAt number file epoch head → ⊥)

-- closed, or open with an epoch and a head
abbrev pub IsGoodSlot : ℕ → List ℕ → Type 0
IsGoodSlot number file = IsClosedSlot file ⊎ ((epoch : ℕ) × (head : Head) × HoldsAt number file epoch head)

-- ---- both

-- closed, or open with a smaller epoch
abbrev pub IsOlder : ℕ → ℕ → List ℕ → Type 0
IsOlder epoch number file = IsClosedSlot file ⊎ ((older : ℕ) × (head : Head) × (older < epoch) × HoldsAt number file older head)

-- the slot of this epoch is the open one of greatest epoch, and keeps this head
pub record IsNewest (image : Image) (epoch : ℕ) (head : Head) : Type 0 where
  pub here : HoldsAt (number_of epoch) (of_file (slot_of epoch) image) epoch head
  pub other : IsOlder epoch (number_of (epoch + 1)) (of_file (slot_of (epoch + 1)) image)

-- both slots are closed
abbrev pub IsNew : Image → Type 0
IsNew image = IsClosedSlot image.snap0 × IsClosedSlot image.snap1

-- the slot of this number is bad, and none before it
abbrev pub IsFirstBad : Image → ℕ → Type 0
IsFirstBad image zero = IsBadSlot 0 image.snap0
IsFirstBad image (suc n) = (n ≡ 0) × IsGoodSlot 0 image.snap0 × IsBadSlot 1 image.snap1

-- the epoch is one more than the newest, or 1 where there is none
abbrev pub IsNext : ℕ → Image → Type 0
IsNext epoch image = (IsNew image × (epoch ≡ 1)) ⊎ ((newest : ℕ) × (head : Head) × IsNewest image newest head × (epoch ≡ newest + 1))

-- ---- the history

-- the newest names no byte from this place on
abbrev pub NamesWithin : ℕ → Image → Type 0
NamesWithin at image = (epoch : ℕ) (head : Head) → IsNewest image epoch head → head.bytes ≤ at
