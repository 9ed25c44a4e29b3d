-- Why a session doesn't serve its whole input, from where it stopped.
use Rattle.std.specs.Prelude.{◌≡◌, ◌⊎◌, Bool, true, false, Ok, Err}
use Rattle.std.specs.declared.result.Result.{Result}
use Rattle.session_steps.specs.Vocabulary.{Stop}
use Rattle.session_steps.specs.StopVariants as stops
use Rattle.session_steps.specs.declared.tally.Tally.{Tally}
use Rattle.batch_session.specs.declared.serving.SessionFault.{SessionFault}
use Rattle.batch_session.specs.declared.serving.SessionFault.TheVariants.{ReadFault, WriteFault, DiskFault, InputTooLong, HistoryFull, NoMemory}

abbrev pub fault_of : Stop → SessionFault
fault_of stops.HistoryFull = HistoryFull
fault_of stops.NoMemory = NoMemory
fault_of stops.DiskFault = DiskFault
fault_of stops.WriteFault = WriteFault

abbrev pub is_disk_fault : SessionFault → Bool
is_disk_fault ReadFault = false
is_disk_fault WriteFault = false
is_disk_fault DiskFault = true
is_disk_fault InputTooLong = false
is_disk_fault HistoryFull = false
is_disk_fault NoMemory = false

-- the disk failed in the session
abbrev pub disk_failed : {T : Type 0} → Result T SessionFault → Bool
disk_failed (Ok value) = false
disk_failed (Err fault) = is_disk_fault fault

-- something couldn't be written: at a line, or in the session
abbrev pub line_unwritten : {T : Type 0} → Result T Stop → Bool
line_unwritten (Ok value) = false
line_unwritten (Err stops.HistoryFull) = false
line_unwritten (Err stops.NoMemory) = false
line_unwritten (Err stops.DiskFault) = false
line_unwritten (Err stops.WriteFault) = true

abbrev pub write_failed : {T : Type 0} → Result T SessionFault → Bool
write_failed (Ok value) = false
write_failed (Err ReadFault) = false
write_failed (Err WriteFault) = true
write_failed (Err DiskFault) = false
write_failed (Err InputTooLong) = false
write_failed (Err HistoryFull) = false
write_failed (Err NoMemory) = false

-- where the end of the input was served, or the session stopped at it
abbrev pub finished : Result (Unit {0}) Stop → Tally → Result Tally SessionFault
finished (Ok value) tally = Ok tally
finished (Err stop) tally = Err (fault_of stop)

-- what it comes to where the output can't be flushed: a fault of the output, or that of the disk that came before
abbrev pub unflushed : Result Tally SessionFault → Result Tally SessionFault
unflushed (Ok tally) = Err WriteFault
unflushed (Err ReadFault) = Err WriteFault
unflushed (Err WriteFault) = Err WriteFault
unflushed (Err DiskFault) = Err DiskFault
unflushed (Err InputTooLong) = Err WriteFault
unflushed (Err HistoryFull) = Err WriteFault
unflushed (Err NoMemory) = Err WriteFault

-- what it comes to once the output was flushed: the same, or a fault of the output
abbrev pub IsFlushed : Result Tally SessionFault → Result Tally SessionFault → Type 0
IsFlushed served result = (result ≡ served) ⊎ (result ≡ Err WriteFault)
