-- Where there is no store nothing stops for the disk.
use Rattle.std.proofs.Common.{◌≡◌, ◌⊎◌, ℕ, inl, inr, Bool, true, false, Option, None, Some, List, refl, sym, subst, arith}
use Rattle.std.proofs.lemmas.Option.{none-some}
use Rattle.sf_outside.specs.Causes.{Rose}
use Rattle.sf_outside.specs.DiskModel.{DiskFacts}
use Rattle.program_meaning.specs.ClassTables.{Source}
use Rattle.serial_order.specs.ConflictFree.{Access}
use Rattle.reservations.specs.CommitRules.{Chosen}
use Rattle.store_meaning.specs.Vocabulary.{Core, empty_core}
use Rattle.storable_cores.specs.Storable.{IsStorable}
use Rattle.storable_cores.proofs.CoreLaws.{empty_is_storable}
use Rattle.session_store.specs.declared.store.Store.{Store}
use Rattle.session_store.specs.Stores.{settings_of, EndsPast}

-- a core with nothing committed and nothing waiting can be stored
pub none_storable : (core : Core) (fresh : ℕ) → core ≡ empty_core → fresh ≡ 0 → IsStorable core fresh
none_storable core fresh empty none =
    subst (λ n. IsStorable core n) (sym none) (subst (λ (c : Core). IsStorable c 0) (sym empty) empty_is_storable)

-- no store comes of none, and without one nothing ends past a file's last place
none_past : (rule : List Access → Chosen) (store : Option Store) (src : Source) (core : Core) (fresh : ℕ) (facts : DiskFacts) → settings_of store ≡ None
    → EndsPast rule store src core fresh facts → ⊥
none_past rule None src core fresh facts none (inl past, kept) = past
none_past rule None src core fresh facts none (inr past, kept) = past
none_past rule (Some store) src core fresh facts none past = none-some store.settings (sym none)

-- a disk that counts no fault hasn't failed then
pub never_failed : (rule : List Access → Chosen) (store : Option Store) (src : Source) (core : Core) (fresh : ℕ) (facts : DiskFacts) (failed : Bool) → settings_of store ≡ None
    → (failed ≡ true → Rose 0 0 ⊎ EndsPast rule store src core fresh facts) → failed ≡ false
never_failed rule store src core fresh facts false none cause = refl
never_failed rule store src core fresh facts true none cause = by (cause refl)
  where
    by : Rose 0 0 ⊎ EndsPast rule store src core fresh facts → true ≡ false
    by (inl rose) = absurd (omega (arith, rose))
    by (inr past) = absurd (none_past rule store src core fresh facts none past)
