-- What the code keeps of a batch while it looks at one request after another: tables of what earlier ones touched, and three lists of places.
use Rattle.std.specs.Prelude.{◌≡◌, ℕ, Bool, ◌&&◌, ◌||◌, List, [], ◌∷◌, ◌++◌, reverse, take, is_some, if◌then◌else◌}
use Rattle.std.specs.List.{list_any}
use Rattle.std.specs.FinMap as finite
use Rattle.std.specs.FinSet as set
use Rattle.sf_value.specs.Keys.{Key, key_of}
use Rattle.sf_value.specs.declared.value.Ref.{Ref}
use Rattle.serial_order.specs.ConflictFree.{Access}
use Rattle.keyed_state.specs.declared.Work.{Work}
use Rattle.keyed_state.specs.Works.{keys_of}
use Rattle.reservations.specs.Accesses.{access_at}
use Rattle.reservations.specs.Reservations.{Reserved}
use Rattle.batch_reorder.specs.declared.rule2.Earlier.{Earlier}
use Rattle.batch_reorder.specs.declared.rule2.Lists.{Lists}

-- One request, by the tables

abbrev pub is_taken : Reserved → Ref → Bool
is_taken reserved at = is_some (finite.get reserved (key_of at))

abbrev pub waits : Earlier → Work → Bool
waits earlier work = list_any (is_taken earlier.writers) work.writes || (list_any (is_taken earlier.writers) work.reads && list_any (is_taken earlier.readers) work.writes)

abbrev pub goes_first : Earlier → Work → Bool
goes_first earlier work = list_any (is_taken earlier.committed) work.reads

-- What it changes

-- these entities are reserved besides
pub record Grows (old new : Reserved) (refs : List Ref) : Type 0 where
  pub at : (q : Key) → is_some (finite.get new q) ≡ (set.contains (keys_of refs) q || is_some (finite.get old q))

-- a request was looked at, which waits or not
pub record IsNoted (old new : Earlier) (work : Work) (is_carried : Bool) : Type 0 where
  pub readers : Grows old.readers new.readers work.reads
  pub writers : Grows old.writers new.writers work.writes
  pub committed : Grows old.committed new.committed (if is_carried then [] else work.writes)

-- the fronts came one before the other
abbrev pub order_of : Lists → List ℕ
order_of lists = reverse lists.fronts ++ lists.backs

pub record IsPlaced (old new : Lists) (place : ℕ) (is_carried is_first : Bool) : Type 0 where
  pub order : order_of new ≡ (if is_carried then order_of old else (if is_first then (place ∷ order_of old) else (order_of old ++ place ∷ [])))
  pub carried : new.carried ≡ (if is_carried then (old.carried ++ place ∷ []) else old.carried)

-- What the tables tell of the requests before a place, and of the committed ones, which stand in this order

pub record Tells (earlier : Earlier) (batch : List Access) (place : ℕ) (order : List ℕ) : Type 0 where
  pub readers : (q : Key) → is_some (finite.get earlier.readers q) ≡ list_any (λ a. set.contains a.reads q) (take place batch)
  pub writers : (q : Key) → is_some (finite.get earlier.writers q) ≡ list_any (λ a. set.contains a.writes q) (take place batch)
  pub committed : (q : Key) → is_some (finite.get earlier.committed q) ≡ list_any (λ other. set.contains (access_at batch other).writes q) order
