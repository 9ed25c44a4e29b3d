-- Small batches, and what the rule makes of them.
use Rattle.std.proofs.Common.{◌≡◌, ◌∙◌, List, [], ◌∷◌}
use Rattle.std.specs.Prelude.{codes}
use Rattle.std.specs.List.{list_any}
use Rattle.std.specs.Ordering.{eq_by_cmp}
use Rattle.std.specs.FinSet as set
use Rattle.sf_value.specs.Keys.{Key, key_cmp}
use Rattle.sf_value.proofs.Maps.{key_total}
use Rattle.serial_order.specs.ConflictFree.{Access}
use Rattle.keyed_state.specs.Works.{Keys}
use Rattle.batch_reorder.specs.Conflicts.{meets}
use Rattle.batch_reorder.specs.Reordering.{in_order, reordered}
use Rattle.batch_reorder.proofs.Tests.{meets_list}

abbrev apple : Key
apple = (0, codes "apple")

abbrev ann : Key
ann = (1, codes "ann")

listed : List Key → Keys
listed keys = set.from_list keys

abbrev access : List Key → List Key → Access
access reads writes = record { reads = listed reads; writes = listed writes }

listed_meet : (xs ys : List Key) → meets (listed xs) (listed ys) ≡ list_any (λ y. list_any (eq_by_cmp key_cmp y) xs) ys
unfolding listed
listed_meet xs ys = meets_list (set.from_list xs) ys ∙ (λ i. list_any (λ y. set.contains-from_list key_total xs y i) ys)

abbrev reads : List Key → Access
reads keys = access keys []

-- it reads all that it writes
abbrev writes : List Key → Access
writes keys = access keys keys

-- Requests that only read

-- the second asks for the apple that the first makes, and by itself finds none: it goes before the first
asks_before_it_is_made : reordered (writes (apple ∷ []) ∷ reads (apple ∷ []) ∷ []) ≡ record { committed = 1 ∷ 0 ∷ []; carried = [] }
unfolding reordered in_order
asks_before_it_is_made = simp listed_meet

-- an apple and ann are made, and the apple is asked for: that goes before both
goes_before_both : reordered (writes (apple ∷ []) ∷ writes (ann ∷ []) ∷ reads (apple ∷ []) ∷ []) ≡ record { committed = 2 ∷ 0 ∷ 1 ∷ []; carried = [] }
unfolding reordered in_order
goes_before_both = simp listed_meet

-- of two that go to the front the later one comes first
later_one_first : reordered (writes (apple ∷ []) ∷ reads (apple ∷ []) ∷ reads (apple ∷ []) ∷ []) ≡ record { committed = 2 ∷ 1 ∷ 0 ∷ []; carried = [] }
unfolding reordered in_order
later_one_first = simp listed_meet

-- those that have nothing in common, and those that all read, stay as they came
made_as_they_came : reordered (writes (apple ∷ []) ∷ writes (ann ∷ []) ∷ []) ≡ record { committed = 0 ∷ 1 ∷ []; carried = [] }
unfolding reordered in_order
made_as_they_came = simp listed_meet

asked_as_they_came : reordered (reads (ann ∷ apple ∷ []) ∷ reads (ann ∷ apple ∷ []) ∷ reads (ann ∷ apple ∷ []) ∷ []) ≡ record { committed = 0 ∷ 1 ∷ 2 ∷ []; carried = [] }
unfolding reordered in_order
asked_as_they_came = simp listed_meet

-- Requests that write

-- one that only read before is in nobody's way, one that wrote is
writes_behind_a_reader : reordered (reads (apple ∷ []) ∷ writes (apple ∷ []) ∷ []) ≡ record { committed = 0 ∷ 1 ∷ []; carried = [] }
unfolding reordered in_order
writes_behind_a_reader = simp listed_meet

waits_behind_a_writer : reordered (writes (apple ∷ []) ∷ writes (apple ∷ []) ∷ []) ≡ record { committed = 0 ∷ []; carried = 1 ∷ [] }
unfolding reordered in_order
waits_behind_a_writer = simp listed_meet

-- also where the second only writes
waits_where_it_reads_nothing : reordered (writes (apple ∷ []) ∷ access [] (apple ∷ []) ∷ []) ≡ record { committed = 0 ∷ []; carried = 1 ∷ [] }
unfolding reordered in_order
waits_where_it_reads_nothing = simp listed_meet

-- each reads what the other writes: neither order would do
neither_order : reordered (access (apple ∷ []) (ann ∷ []) ∷ access (ann ∷ []) (apple ∷ []) ∷ []) ≡ record { committed = 0 ∷ []; carried = 1 ∷ [] }
unfolding reordered in_order
neither_order = simp listed_meet

-- the last reads what the second alone writes: as that one waits, there is nothing to go before
reads_of_one_that_waits : reordered (writes (apple ∷ []) ∷ writes (apple ∷ ann ∷ []) ∷ reads (ann ∷ []) ∷ []) ≡ record { committed = 0 ∷ 2 ∷ []; carried = 1 ∷ [] }
unfolding reordered in_order
reads_of_one_that_waits = simp listed_meet
