-- What a rule on commits chooses, and what each rule has to keep.
use Rattle.std.specs.Prelude.{◌≡◌, ℕ, ◌<◌, true, nat_eq, List, ◌++◌, map as over, length}
use Rattle.std.specs.List.{list_any, range_with_len}
use Rattle.std.specs.List.Sorted.{IsPermutation, IsStrictlyIncreasing}
use Rattle.serial_order.specs.ConflictFree.{Access, IsConflictFree}
use Rattle.reservations.specs.Accesses.{access_at}

-- the places of a batch that are committed, in this order, and those that are carried
pub record Chosen : Type 0 where
  pub committed : List ℕ
  pub carried : List ℕ

-- the places of a batch of so many, rising
abbrev pub places : ℕ → List ℕ
places n = range_with_len 0 n

pub record IsLawful (batch : List Access) (chosen : Chosen) : Type 0 where
  -- both lists together are the places of the batch, each of them once
  pub once : IsPermutation (places (length batch)) (chosen.committed ++ chosen.carried)
  pub rises : IsStrictlyIncreasing chosen.carried
  pub first : 0 < length batch → list_any (nat_eq 0) chosen.committed ≡ true
  -- one that is committed writes nothing that a later one of the list reads or writes
  pub apart : IsConflictFree (over (access_at batch) chosen.committed)
