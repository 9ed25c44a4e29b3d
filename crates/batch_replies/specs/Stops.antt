-- What each stop of a batch or a line means: whether the disk failed, and how many requests are new behind it.
use Rattle.std.specs.Prelude.{ℕ, Bool, true, false, Ok, Err}
use Rattle.std.specs.declared.result.Result.{Result}
use Rattle.batch_replies.specs.declared.stops.Stop.{Stop}
use Rattle.batch_replies.specs.declared.stops.Stop.TheVariants.{HistoryFull, NoMemory, DiskFault, WriteFault}

-- the disk failed: what was to be in the store is there or not
abbrev pub is_disk_fault : Stop → Bool
is_disk_fault HistoryFull = false
is_disk_fault NoMemory = false
is_disk_fault DiskFault = true
is_disk_fault WriteFault = false

abbrev pub disk_failed : {T : Type 0} → Result T Stop → Bool
disk_failed (Ok value) = false
disk_failed (Err stop) = is_disk_fault stop

-- how many requests came since the last batch: none, where the batch was committed
abbrev pub fresh_behind : {T : Type 0} → Result T Stop → ℕ → ℕ
fresh_behind (Ok value) fresh = 0
fresh_behind (Err HistoryFull) fresh = fresh
fresh_behind (Err NoMemory) fresh = fresh
fresh_behind (Err DiskFault) fresh = fresh
fresh_behind (Err WriteFault) fresh = 0
