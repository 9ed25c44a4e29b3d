-- A batch of four, by the batch rule.
use Rattle.std.proofs.Common.{◌≡◌, ◌∙◌, ◌<◌, ℕ, zero, suc, true, true≢false, ◌||◌, List, [], ◌∷◌, sym, ap, arith}
use Rattle.std.specs.Prelude.{codes}
use Rattle.std.specs.FinSet as set
use Rattle.std.specs.Cmp.{eq_by_cmp_equiv}
use Rattle.sf_value.specs.Keys.{Key, key_cmp}
use Rattle.sf_value.proofs.Maps.{key_total}
use Rattle.serial_order.specs.ConflictFree.{Access, LeavesAlone}
use Rattle.keyed_state.specs.Works.{Keys}
use Rattle.reservations.specs.Accesses.{access_at}
use Rattle.reservations.specs.BatchRule.{IsClear}

abbrev x : Key
x = (0, codes "x")

abbrev y : Key
y = (0, codes "y")

abbrev none : Keys
none = set.empty

abbrev just : Key → Keys
just q = set.insert set.empty q

abbrev access : Keys → Keys → Access
access reads writes = record { reads = reads; writes = writes }

-- the first writes x; the second reads x, so it is carried, and writes y; the third reads y; the fourth, which failed, read x and wrote nothing
abbrev batch : List Access
batch = access (just x) (just x) ∷ access (just x) (just y) ∷ access (just y) none ∷ access (just x) none ∷ []

is_in : (q : Key) → set.contains (just q) q ≡ true
is_in q = set.contains-insert key_total set.empty q q ∙ ap (λ b. b || set.contains none q) ((eq_by_cmp_equiv key_total).refl q)

first_is_clear : IsClear batch 0
first_is_clear = record { earlier = λ other less. absurd (omega arith) }

second_waits : IsClear batch 1 → ⊥
second_waits clear = true≢false (sym (ap (λ b. b || set.contains (just y) x) (is_in x)) ∙ (clear.earlier 0 (omega arith)).at x (is_in x))

-- for the second, though that one is carried
third_waits : IsClear batch 2 → ⊥
third_waits clear = true≢false (sym (ap (λ b. b || set.contains none y) (is_in y)) ∙ (clear.earlier 1 (omega arith)).at y (is_in y))

fourth_waits : IsClear batch 3 → ⊥
fourth_waits clear = true≢false (sym (ap (λ b. b || set.contains none x) (is_in x)) ∙ (clear.earlier 0 (omega arith)).at x (is_in x))

-- one that reads doesn't stand in the way of one that writes
writer_is_clear : IsClear (access (just x) none ∷ access (just x) (just x) ∷ []) 1
writer_is_clear = record { earlier = by }
  where
    by : (other : ℕ) → other < 1 → LeavesAlone (access_at (access (just x) none ∷ access (just x) (just x) ∷ []) other) (access (just x) (just x))
    by zero less = record { at = λ q written. absurd (true≢false (sym written ∙ set.contains-empty key_cmp q)) }
    by (suc other) less = absurd (omega arith)
