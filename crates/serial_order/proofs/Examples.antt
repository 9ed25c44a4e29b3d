-- Small batches, with what is said of them.
use Rattle.std.proofs.Common.{◌≡◌, ◌∙◌, true, false, true≢false, cond, ◌||◌, List, [], ◌∷◌, Some, None, sym, ap}
use Rattle.std.specs.Prelude.{codes}
use Rattle.std.specs.FinMap as map
use Rattle.std.specs.FinSet as set
use Rattle.sf_value.specs.Keys.{Key, key_cmp}
use Rattle.sf_value.specs.declared.value.Value.{Value}
use Rattle.sf_value.specs.declared.value.Value.TheVariants as value
use Rattle.sf_value.specs.declared.Outcome.TheVariants as outcome
use Rattle.sf_value.proofs.Maps.{key_total}
use Rattle.program_meaning.specs.World.{State, Keys}
use Rattle.program_meaning.specs.RequestRun.{Ran}
use Rattle.serial_order.specs.ConflictFree.{Access, IsConflictFree, record_after}

abbrev x : Key
x = (0, codes "x")

abbrev none : Keys
none = set.empty

abbrev one : Keys
one = set.insert set.empty x

abbrev holding : List Value → State
holding fields = map.insert map.empty x fields

abbrev reader : Access
reader = record { reads = one; writes = none }

abbrev writer : Access
writer = record { reads = one; writes = one }

is_in_one : set.contains one x ≡ true
is_in_one = set.contains-insert key_total set.empty x x

is_held : (fields : List Value) → map.get (holding fields) x ≡ Some fields
is_held fields = map.get-insert key_total map.empty x fields x

-- one that reads may stand before one that writes, and not behind it
before_the_writer : IsConflictFree (reader ∷ writer ∷ [])
unfolding IsConflictFree
before_the_writer = ((record { at = λ q h. absurd (true≢false (sym h ∙ set.contains-empty key_cmp q)) }, tt), (tt, tt))

behind_the_writer : IsConflictFree (writer ∷ reader ∷ []) → ⊥
unfolding IsConflictFree
behind_the_writer free = true≢false (sym (ap (λ b. b || set.contains none x) is_in_one) ∙ free.0.0.at x is_in_one)

-- of two that write one entity the later one's record stands; one that only reads it leaves it
abbrev wrote : List Value → Keys → Ran
wrote fields keys = record { outcome = outcome.Value value.Nil; state = holding fields; reads = one; writes = keys; steps = 0 }

last_record : record_after None x (wrote (value.Bool true ∷ []) one ∷ wrote (value.Bool false ∷ []) one ∷ wrote [] none ∷ []) ≡ Some (value.Bool false ∷ [])
unfolding record_after
last_record = λ i.
    cond (set.contains-empty key_cmp x i) (map.get (holding []) x)
    (cond (is_in_one i) (is_held (value.Bool false ∷ []) i) (cond (set.contains one x) (map.get (holding (value.Bool true ∷ [])) x) None))
