-- What the log of the newest snapshot makes of a store.
use Rattle.std.proofs.Common.{ℕ, IfSome, Err, inr, refl}
use Rattle.std.specs.declared.option.Option.{Option}
use Rattle.sf_outside.specs.DiskModel.{Image, of_file}
use Rattle.sf_outside.proofs.ImageSteps.{if_one, if_both}
use Rattle.sf_value.specs.declared.Snapshot.{Snapshot}
use Rattle.request_log.specs.declared.fault.LogFault.{LogFault}
use Rattle.request_log.specs.declared.fault.LogFault.TheVariants.{Failed, Bad, NoMemory}
use Rattle.snapshot_store.specs.SlotFile.{log_of}
use Rattle.recovery.specs.Answers.{Answers, AnswersLog, log_fault}
use Rattle.recovery.specs.StoreImage.{KeepsSnapshot, BreaksAt, IsBad}

-- where the log is bad the store is
pub seen_bad_log : (seen : Option Image) (epoch : ℕ) (kept : Snapshot) (bytes : ℕ) (fault : LogFault) → IfSome seen (λ now. KeepsSnapshot now epoch kept bytes) → IfSome seen (λ now. AnswersLog (of_file (log_of epoch) now) (Err fault))
    → IfSome seen (λ now. Answers now (Err (log_fault (log_of epoch) fault)))
seen_bad_log seen epoch kept bytes (Bad at) newest breaks =
    if_both seen (λ now. KeepsSnapshot now epoch kept bytes) (λ now. BreaksAt (of_file (log_of epoch) now) at) (λ now. IsBad now (log_of epoch) at)
    (λ now is there. inr (inr (record { epoch = epoch; kept = kept; bytes = bytes; newest = is; same_file = refl; breaks = there }))) newest breaks
seen_bad_log seen epoch kept bytes Failed newest breaks = if_one seen (λ now. KeepsSnapshot now epoch kept bytes) (λ now. Unit {0}) (λ now is. tt) newest
seen_bad_log seen epoch kept bytes NoMemory newest breaks = if_one seen (λ now. KeepsSnapshot now epoch kept bytes) (λ now. Unit {0}) (λ now is. tt) newest
