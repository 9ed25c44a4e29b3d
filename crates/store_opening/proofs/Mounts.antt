-- What is told of a mount, from finding a store to opening it.
use Rattle.std.proofs.Common.{◌≡◌, ◌∙◌, ℕ, List, inl, inr, ⊎_elim, Ok, Err, subst, arith}
use Rattle.std.specs.declared.option.Option.{Option}
use Rattle.std.specs.declared.result.Result.{Result}
use Rattle.sf_outside.specs.DiskModel.{Image, DiskFacts, LeavesOnly, Mounts}
use Rattle.store_meaning.specs.StandsFor.{Program}
use Rattle.store_opening.specs.declared.finding.FoundStore.{FoundStore}
use Rattle.store_opening.specs.declared.opened_store.OpenedStore.{OpenedStore}
use Rattle.store_opening.specs.declared.stop.OpenStop.{OpenStop}
use Rattle.store_opening.specs.declared.stop.OpenStop.TheVariants.{DiskFault, Bad, OtherProgram, NoMemory}
use Rattle.store_opening.specs.Findings.{IsAsFound}
use Rattle.store_opening.specs.Openings.{LeavesFound, IsMounted, MountsFor}

module _ (p : Program) (found : Option Image) (name : List ℕ) (faults faults' : ℕ) where
  -- where nothing is written
  module _ (old new : Mounts) (before now : DiskFacts) where
    pub found_mounted : IsMounted name (IsAsFound found) old new before now → IsMounted name (LeavesFound p found) old new before now
    found_mounted m = record { moment = m.moment; later = m.later; within = m.within; mounts = m.mounts; each = λ image left. inl (m.each image left) }

    pub stop_mounts : (stop : OpenStop) → MountsFor {T = FoundStore} (Err stop) name (IsAsFound found) old new faults faults' before now
        → MountsFor {T = OpenedStore} (Err stop) name (LeavesFound p found) old new faults faults' before now
    stop_mounts (Bad file at) m = found_mounted m
    stop_mounts OtherProgram m = found_mounted m
    stop_mounts DiskFault (inl m) = inl (found_mounted m)
    stop_mounts DiskFault (inr r) = inr r
    stop_mounts NoMemory (inl m) = inl (found_mounted m)
    stop_mounts NoMemory (inr r) = inr r

  -- where a new store is begun
  module _ (old between new : Mounts) (before mid now : DiskFacts) (mounted : IsMounted name (IsAsFound found) old between before mid) (same : new ≡ between) (seen : mid.seen ≡ found)
      (moments : LeavesOnly mid now (LeavesFound p mid.seen)) where
    begun_mounted : IsMounted name (LeavesFound p found) old new before now
    begun_mounted = record {
      moment = mounted.moment;
      later = mounted.later;
      within = omega (arith, mounted.within, moments.later);
      mounts = same ∙ mounted.mounts;
      each = λ image left.
          ⊎_elim (λ earlier. inl (mounted.each image earlier)) (λ here. subst (λ s. LeavesFound p s image) seen here) (moments.before mounted.moment image mounted.within left);
    }

    pub begun_mounts : (result : Result OpenedStore OpenStop) → MountsFor result name (LeavesFound p found) old new faults faults' before now
    begun_mounts (Ok made) = begun_mounted
    begun_mounts (Err (Bad file at)) = begun_mounted
    begun_mounts (Err OtherProgram) = begun_mounted
    begun_mounts (Err DiskFault) = inl begun_mounted
    begun_mounts (Err NoMemory) = inl begun_mounted
