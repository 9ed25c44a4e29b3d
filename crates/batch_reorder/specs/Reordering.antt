-- The reordered batch as a choice.
use Rattle.std.specs.Prelude.{ℕ, Bool, not, ◌&&◌, List, [], ◌∷◌, ◌++◌, filter, length, if◌then◌else◌}
use Rattle.std.specs.List.{list_any}
use Rattle.serial_order.specs.ConflictFree.{Access}
use Rattle.reservations.specs.Accesses.{access_at}
use Rattle.reservations.specs.CommitRules.{Chosen, places}
use Rattle.batch_reorder.specs.Conflicts.{read_after_write, write_after_read, write_after_write, has_earlier}

abbrev pub is_committed : List Access → ℕ → Bool
is_committed batch place = not (has_earlier write_after_write batch place) && not (has_earlier read_after_write batch place && has_earlier write_after_read batch place)

abbrev pub reads_of : List Access → List ℕ → ℕ → Bool
reads_of batch others place = list_any (λ other. read_after_write (access_at batch other) (access_at batch place)) others

abbrev pub put : List Access → List ℕ → ℕ → List ℕ
put batch before place = if reads_of batch before place then (place ∷ before) else (before ++ place ∷ [])

unfoldable pub in_order : List Access → List ℕ → List ℕ → List ℕ
in_order batch before [] = before
in_order batch before (place ∷ more) = in_order batch (put batch before place) more

unfoldable pub reordered : List Access → Chosen
reordered batch = record {
  committed = in_order batch [] (filter (is_committed batch) (places (length batch)));
  carried = filter (λ place. not (is_committed batch place)) (places (length batch));
}
