-- What finding a store again answers.
use Rattle.std.specs.Prelude.{ℕ, ◌≡◌, List, length, Result, Ok, Err}
use Rattle.std.specs.List.{AllByRecursion, sum_by}
use Rattle.sf_bytes.specs.Entries.{HistoryIs, HistoryBreaks}
use Rattle.byte_sizes.specs.Sizes.{entry_size}
use Rattle.byte_sizes.specs.Spelt.{IsReadEntry, IsReadBatch, IsReadSnapshot}
use Rattle.sf_outside.specs.DiskModel.{Image}
use Rattle.sf_outside.specs.declared.store_disk.StoreFile.{StoreFile}
use Rattle.sf_outside.specs.declared.store_disk.StoreFile.TheVariants.{Hist}
use Rattle.sf_value.specs.declared.Entry.{Entry}
use Rattle.request_log.specs.declared.fault.LogFault.{LogFault}
use Rattle.request_log.specs.declared.fault.LogFault.TheVariants as of_log
use Rattle.snapshot_store.specs.SlotFile.{slot_file, IsEpoch, IsNew}
use Rattle.snapshot_store.specs.declared.fault.SnapFault.{SnapFault}
use Rattle.snapshot_store.specs.declared.fault.SnapFault.TheVariants as of_slots
use Rattle.recovery.specs.declared.fault.OpenFault.{OpenFault}
use Rattle.recovery.specs.declared.fault.OpenFault.TheVariants.{Failed, Bad, NoMemory}
use Rattle.recovery.specs.declared.log.Log.{Log}
use Rattle.recovery.specs.declared.opened.Opened.{Opened}
use Rattle.recovery.specs.declared.opened.Opened.TheVariants.{New, Old}
use Rattle.recovery.specs.declared.opened.Placed.{Placed}
use Rattle.recovery.specs.StoreImage.{ArePlaced, EndsAt, BreaksAt, IsOld, IsBad}

-- the store is new, or old with exactly these, or bad at exactly this place
abbrev pub Answers : Image → Result Opened OpenFault → Type 0
Answers image (Ok New) = IsNew image
Answers image (Ok (Old epoch kept bytes batches at)) = IsOld image epoch kept bytes batches at
Answers image (Err (Bad file at)) = IsBad image file at
Answers image (Err Failed) = Unit {0}
Answers image (Err NoMemory) = Unit {0}

-- each batch can be read, and they are at their places from the start of a log on
pub record AreLogged (batches : List Placed) (at : ℕ) : Type 0 where
  pub read : AllByRecursion (λ placed. IsReadBatch placed.batch) batches
  pub places : ArePlaced 0 batches at

-- these entries take so many bytes
abbrev pub HaveBytes : List Entry → ℕ → Type 0
HaveBytes entries bytes = bytes ≡ sum_by entry_size entries

-- what is old can be kept and read, and its history takes the bytes that are told
abbrev pub IsPlaced : Result Opened OpenFault → Type 0
IsPlaced (Ok New) = Unit {0}
IsPlaced (Ok (Old epoch kept bytes batches at)) = IsEpoch epoch × IsReadSnapshot kept × HaveBytes kept.history bytes × AreLogged batches at
IsPlaced (Err fault) = Unit {0}

-- what holds wherever the disk didn't fail
abbrev pub UnlessFailed : Result Opened OpenFault → Type 0 → Type 0
UnlessFailed (Ok opened) P = P
UnlessFailed (Err (Bad file at)) P = P
UnlessFailed (Err NoMemory) P = P
UnlessFailed (Err Failed) P = Unit {0}

-- ---- faults below

-- a bad slot is bad at its start
abbrev pub slot_fault : SnapFault → OpenFault
slot_fault of_slots.Failed = Failed
slot_fault (of_slots.Bad slot) = Bad (slot_file slot) 0
slot_fault of_slots.NoMemory = NoMemory

-- a log is bad where it breaks
abbrev pub log_fault : StoreFile → LogFault → OpenFault
log_fault log of_log.Failed = Failed
log_fault log (of_log.Bad at) = Bad log at
log_fault log of_log.NoMemory = NoMemory

-- ---- one history

-- what is named of the file is these entries, or it breaks at this place
abbrev pub AnswersHistory : List ℕ → ℕ → ℕ → Result (List Entry) OpenFault → Type 0
AnswersHistory file kept bytes (Ok entries) = HistoryIs file kept bytes entries
AnswersHistory file kept bytes (Err (Bad named at)) = (named ≡ Hist) × HistoryBreaks file kept bytes at
AnswersHistory file kept bytes (Err Failed) = Unit {0}
AnswersHistory file kept bytes (Err NoMemory) = Unit {0}

-- there are so many entries, each can be read, and they take so many bytes
abbrev pub AreEntries : ℕ → ℕ → Result (List Entry) OpenFault → Type 0
AreEntries kept bytes (Ok entries) = (length entries ≡ kept) × AllByRecursion IsReadEntry entries × HaveBytes entries bytes
AreEntries kept bytes (Err fault) = Unit {0}

-- ---- one log

-- the batches of the log and the place of the closed gate behind them, or the place where it breaks
abbrev pub AnswersLog : List ℕ → Result Log LogFault → Type 0
AnswersLog file (Ok log) = EndsAt file log.batches log.at
AnswersLog file (Err (of_log.Bad at)) = BreaksAt file at
AnswersLog file (Err of_log.Failed) = Unit {0}
AnswersLog file (Err of_log.NoMemory) = Unit {0}

abbrev pub IsPlacedLog : Result Log LogFault → Type 0
IsPlacedLog (Ok log) = AreLogged log.batches log.at
IsPlacedLog (Err fault) = Unit {0}
