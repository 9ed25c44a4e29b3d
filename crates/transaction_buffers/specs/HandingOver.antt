-- The entries as a work.
use Rattle.std.specs.Prelude.{◌≡◌, true, List, [], ◌∷◌, ◌++◌, map as over, filter, Some, None}
use Rattle.std.specs.declared.option.Option.{Option}
use Rattle.std.specs.FinMap as finite
use Rattle.std.specs.FinSet as set
use Rattle.sf_value.specs.Keys.{Key}
use Rattle.sf_value.specs.declared.value.Ref.{Ref}
use Rattle.sf_value.specs.declared.value.Record.{Record}
use Rattle.sf_value.specs.declared.Held.{Held}
use Rattle.keyed_state.specs.declared.Work.{Work}
use Rattle.keyed_state.specs.Works.{keys_of, held_record}
use Rattle.transaction_buffers.specs.declared.buffers.Touched.{Touched}
use Rattle.transaction_buffers.specs.Touches.{own_in, written_in}

-- the entities that were written, in their order
abbrev pub written : List (Ref × Touched) → List Ref
written entries = over (λ (e : Ref × Touched). e.0) (filter (λ (e : Ref × Touched). e.1.wrote) entries)

-- an entity with its record, where there is one
abbrev pub record_of : Ref → Option Record → List Held
record_of at None = []
record_of at (Some fields) = record { at = at; fields = fields } ∷ []

-- the records of entries
abbrev pub all_records : List (Ref × Touched) → List Held
all_records [] = []
all_records (e ∷ more) = record_of e.0 e.1.own ++ all_records more

-- the records of the entities that were written
abbrev pub records_of : List (Ref × Touched) → List Held
records_of entries = all_records (filter (λ (e : Ref × Touched). e.1.wrote) entries)

-- a work has read and written what these entries say, and holds their records of what was written
pub record IsHandedOver (entries : List (Ref × Touched)) (work : Work) : Type 0 where
  pub reads : keys_of work.reads ≡ keys_of (over (λ (e : Ref × Touched). e.0) entries)
  pub writes : keys_of work.writes ≡ written_in entries
  pub held : (q : Key) → set.contains (written_in entries) q ≡ true → held_record work.held q ≡ finite.get (own_in entries) q
