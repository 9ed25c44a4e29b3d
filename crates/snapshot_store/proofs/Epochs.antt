-- Which files an epoch and the one after it have.
use Rattle.std.proofs.Common.{◌≡◌, ◌≢◌, ℕ, zero, suc, ◌+◌, refl, sym, arith}
use Rattle.sf_outside.specs.declared.store_disk.StoreFile.TheVariants.{Snap1, Log1, Hist}
use Rattle.snapshot_store.specs.SlotFile.{number_of, slot_file, log_file, slot_of, log_of}

pub slot_file-one : (n : ℕ) → n ≢ 0 → slot_file n ≡ Snap1
slot_file-one zero not = absurd (not refl)
slot_file-one (suc n) not = refl

pub log_file-one : (n : ℕ) → n ≢ 0 → log_file n ≡ Log1
log_file-one zero not = absurd (not refl)
log_file-one (suc n) not = refl

-- no slot is a log
slot-log : (m n : ℕ) → slot_file m ≢ log_file n
slot-log zero zero = λ same. cc
slot-log zero (suc n) = λ same. cc
slot-log (suc m) zero = λ same. cc
slot-log (suc m) (suc n) = λ same. cc

log-slot : (m n : ℕ) → log_file m ≢ slot_file n
log-slot zero zero = λ same. cc
log-slot zero (suc n) = λ same. cc
log-slot (suc m) zero = λ same. cc
log-slot (suc m) (suc n) = λ same. cc

-- and neither is the history
slot-hist : (n : ℕ) → slot_file n ≢ Hist
slot-hist zero = λ same. cc
slot-hist (suc n) = λ same. cc

log-hist : (n : ℕ) → log_file n ≢ Hist
log-hist zero = λ same. cc
log-hist (suc n) = λ same. cc

-- files of different numbers differ
slot-slot : (m n : ℕ) → m + n ≡ 1 → slot_file m ≢ slot_file n
slot-slot zero zero both = absurd (omega (arith, both))
slot-slot zero (suc n) both = λ same. cc
slot-slot (suc m) zero both = λ same. cc
slot-slot (suc m) (suc n) both = absurd (omega (arith, both))

log-log : (m n : ℕ) → m + n ≡ 1 → log_file m ≢ log_file n
log-log zero zero both = absurd (omega (arith, both))
log-log zero (suc n) both = λ same. cc
log-log (suc m) zero both = λ same. cc
log-log (suc m) (suc n) both = absurd (omega (arith, both))

numbers : (epoch : ℕ) → number_of (epoch + 1) + number_of epoch ≡ 1
numbers epoch = omega arith

module _ (epoch : ℕ) where
  pub log_differs : log_of epoch ≢ slot_of epoch
  log_differs = log-slot (number_of epoch) (number_of epoch)

  pub slot_differs : slot_of epoch ≢ log_of epoch
  slot_differs = slot-log (number_of epoch) (number_of epoch)

  pub other_slot-slot : slot_of (epoch + 1) ≢ slot_of epoch
  other_slot-slot = slot-slot (number_of (epoch + 1)) (number_of epoch) (numbers epoch)

  pub other_slot-log : slot_of (epoch + 1) ≢ log_of epoch
  other_slot-log = slot-log (number_of (epoch + 1)) (number_of epoch)

  pub other_log-slot : log_of (epoch + 1) ≢ slot_of epoch
  other_log-slot = log-slot (number_of (epoch + 1)) (number_of epoch)

  pub other_log-log : log_of (epoch + 1) ≢ log_of epoch
  other_log-log = log-log (number_of (epoch + 1)) (number_of epoch) (numbers epoch)

  pub slot-history : slot_of epoch ≢ Hist
  slot-history = slot-hist (number_of epoch)

  pub log-history : log_of epoch ≢ Hist
  log-history = log-hist (number_of epoch)

  pub history-slot : Hist ≢ slot_of epoch
  history-slot = λ same. slot-history (sym same)

  pub history-log : Hist ≢ log_of epoch
  history-log = λ same. log-history (sym same)
