-- The reordered batch, by pairs of requests: which of them are committed, in which order, and which are carried.
use Rattle.std.specs.Prelude.{◌≡◌, ◌↔◌, ℕ, ◌<◌, true, nat_eq, List, [], ◌∷◌, ◌++◌, length}
use Rattle.std.specs.List.{list_any}
use Rattle.std.specs.List.Sorted.{IsStrictlyIncreasing}
use Rattle.serial_order.specs.ConflictFree.{Access}
use Rattle.reservations.specs.Accesses.{access_at}
use Rattle.reservations.specs.CommitRules.{Chosen}
use Rattle.batch_reorder.specs.Conflicts.{ReadAfterWrite, WriteAfterRead, WriteAfterWrite, HasEarlier}

-- it writes nothing that an earlier one writes, and it doesn't both read what an earlier one writes and write what an earlier one reads
pub record IsCommitted (batch : List Access) (place : ℕ) : Type 0 where
  pub not_written : HasEarlier WriteAfterWrite batch place → ⊥
  pub not_both : HasEarlier ReadAfterWrite batch place → HasEarlier WriteAfterRead batch place → ⊥

-- it reads what one of these writes
pub record ReadsOf (batch : List Access) (others : List ℕ) (place : ℕ) : Type 0 where
  pub other : ℕ
  pub among : list_any (nat_eq other) others ≡ true
  pub read : ReadAfterWrite (access_at batch other) (access_at batch place)

-- one that reads what one before it in the order writes goes to the front, and any other to the back
pub record IsPut (batch : List Access) (before : List ℕ) (place : ℕ) (after : List ℕ) : Type 0 where
  pub front : ReadsOf batch before place → after ≡ place ∷ before
  pub back : (ReadsOf batch before place → ⊥) → after ≡ before ++ place ∷ []

-- these places, each put in turn, make this order of the one before
abbrev pub AreInOrder : List Access → List ℕ → List ℕ → List ℕ → Type 0
AreInOrder batch before [] order = order ≡ before
AreInOrder batch before (place ∷ more) order = (after : List ℕ) × (IsPut batch before place after × AreInOrder batch after more order)

-- the committed places are put with rising numbers, from the empty list, and the others are carried, rising
pub record IsReordered (batch : List Access) (chosen : Chosen) : Type 0 where
  pub kept : List ℕ
  pub kept_rise : IsStrictlyIncreasing kept
  pub kept_are : (place : ℕ) → (list_any (nat_eq place) kept ≡ true) ↔ ((place < length batch) × IsCommitted batch place)
  pub committed : AreInOrder batch [] kept chosen.committed
  pub carried : (place : ℕ) → (list_any (nat_eq place) chosen.carried ≡ true) ↔ ((place < length batch) × (IsCommitted batch place → ⊥))
  pub carried_rise : IsStrictlyIncreasing chosen.carried
