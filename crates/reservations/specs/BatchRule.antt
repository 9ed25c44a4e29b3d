-- The batch rule: a request is committed exactly where no earlier one of the batch, committed or not, writes an entity that it reads
-- or writes. The others are carried. Both lists rise.
use Rattle.std.specs.Prelude.{◌≡◌, ◌↔◌, ℕ, ◌<◌, Bool, true, not, nat_eq, List, filter, length, take}
use Rattle.std.specs.List.{list_any, list_all}
use Rattle.std.specs.List.Sorted.{IsStrictlyIncreasing}
use Rattle.std.specs.FinSet as set
use Rattle.serial_order.specs.ConflictFree.{Access, LeavesAlone}
use Rattle.reservations.specs.Accesses.{access_at}
use Rattle.reservations.specs.CommitRules.{Chosen, places}

-- no earlier request of the batch writes an entity that this one reads or writes
pub record IsClear (batch : List Access) (place : ℕ) : Type 0 where
  pub earlier : (other : ℕ) → other < place → LeavesAlone (access_at batch other) (access_at batch place)

-- the committed places are those of the batch that are clear, and the carried ones those that aren't
pub record IsBatchRule (batch : List Access) (chosen : Chosen) : Type 0 where
  pub committed : (place : ℕ) → (list_any (nat_eq place) chosen.committed ≡ true) ↔ ((place < length batch) × IsClear batch place)
  pub carried : (place : ℕ) → (list_any (nat_eq place) chosen.carried ≡ true) ↔ ((place < length batch) × (IsClear batch place → ⊥))
  pub committed_rise : IsStrictlyIncreasing chosen.committed
  pub carried_rise : IsStrictlyIncreasing chosen.carried

-- The rule as a choice

-- what the first writes has nothing in common with what the second reads or writes
abbrev pub leaves_alone : Access → Access → Bool
leaves_alone a b = nat_eq (set.len (set.intersection a.writes (set.union b.reads b.writes))) 0

abbrev pub is_clear : List Access → ℕ → Bool
is_clear batch place = list_all (λ a. leaves_alone a (access_at batch place)) (take place batch)

unfoldable pub batch_rule : List Access → Chosen
batch_rule batch = record {
  committed = filter (is_clear batch) (places (length batch));
  carried = filter (λ place. not (is_clear batch place)) (places (length batch));
}
