-- What reading the slots answers.
use Rattle.std.specs.Prelude.{ℕ, ◌≡◌, ◌+◌, ◌<◌, List, length, Option, Some, None, Result, Ok, Err, nat_lt, if◌then◌else◌}
use Rattle.sf_bytes.specs.ByteForms.{long_bytes}
use Rattle.sf_bytes.specs.Gates.{StandsAt}
use Rattle.sf_bytes.specs.Heads.{IsHead}
use Rattle.sf_bytes.specs.Spelt.{IsReadHead}
use Rattle.sf_outside.specs.DiskModel.{Image}
use Rattle.sf_value.specs.declared.heads.Head.{Head}
use Rattle.snapshot_store.specs.declared.fault.SnapFault.{SnapFault}
use Rattle.snapshot_store.specs.declared.fault.SnapFault.TheVariants.{Failed, Bad, NoMemory}
use Rattle.snapshot_store.specs.declared.front.Gate.{Gate}
use Rattle.snapshot_store.specs.declared.front.Gate.TheVariants.{Alone, Closed, Open}
use Rattle.snapshot_store.specs.declared.reading.Kept.{Kept}
use Rattle.snapshot_store.specs.SlotFile.{IsEpoch, IsClosedSlot, IsOpenSlot, IsShutSlot, HoldsAt, IsBadSlot, IsNewest, IsNew, IsFirstBad}

-- the newest head with its epoch, nothing where the store is new, and bad with the first bad slot
abbrev pub Answers : Image → Result (Option Kept) SnapFault → Type 0
Answers image (Ok (Some kept)) = IsNewest image kept.epoch kept.head
Answers image (Ok None) = IsNew image
Answers image (Err (Bad slot)) = IsFirstBad image slot
Answers image (Err Failed) = Unit {0}
Answers image (Err NoMemory) = Unit {0}

-- what is kept can be kept, and a slot is one of the two
abbrev pub IsPlaced : Result (Option Kept) SnapFault → Type 0
IsPlaced (Ok (Some kept)) = IsEpoch kept.epoch × IsReadHead kept.head
IsPlaced (Ok None) = Unit {0}
IsPlaced (Err (Bad slot)) = slot < 2
IsPlaced (Err Failed) = Unit {0}
IsPlaced (Err NoMemory) = Unit {0}

-- ---- one slot

abbrev pub AnswersSlot : ℕ → List ℕ → Result (Option Kept) SnapFault → Type 0
AnswersSlot number file (Ok (Some kept)) = HoldsAt number file kept.epoch kept.head
AnswersSlot number file (Ok None) = IsClosedSlot file
AnswersSlot number file (Err (Bad slot)) = IsBadSlot number file
AnswersSlot number file (Err Failed) = Unit {0}
AnswersSlot number file (Err NoMemory) = Unit {0}

-- what is bad is the slot that was asked for
abbrev pub IsPlacedSlot : ℕ → Result (Option Kept) SnapFault → Type 0
IsPlacedSlot number (Ok (Some kept)) = IsEpoch kept.epoch × IsReadHead kept.head
IsPlacedSlot number (Ok None) = Unit {0}
IsPlacedSlot number (Err (Bad slot)) = slot ≡ number
IsPlacedSlot number (Err Failed) = Unit {0}
IsPlacedSlot number (Err NoMemory) = Unit {0}

-- at most one byte; or a closed gate and more; or an open gate and more
abbrev pub SaysGate : List ℕ → Gate → Type 0
SaysGate file Alone = length file < 2
SaysGate file Closed = IsShutSlot file
SaysGate file Open = IsOpenSlot file

-- the number whose eight bytes stand there, or nothing where the file ends before
abbrev pub SaysNumber : List ℕ → ℕ → Option ℕ → Type 0
SaysNumber file at (Some n) = StandsAt file at (long_bytes n)
SaysNumber file at None = length file < at + 8

-- the head whose bytes these are, or nothing where they are no head's
abbrev pub SaysHead : List ℕ → Option Head → Type 0
SaysHead body (Some head) = IsHead body head
SaysHead body None = (head : Head) → IsHead body head → ⊥

-- of two slots the one with the greater epoch
abbrev pub newer_of : Option Kept → Option Kept → Option Kept
newer_of None second = second
newer_of (Some first) None = Some first
newer_of (Some first) (Some second) = if nat_lt second.epoch first.epoch then Some first else Some second
