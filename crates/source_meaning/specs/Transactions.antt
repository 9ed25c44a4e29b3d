-- What a transaction sees: the records that it has changed, over those of the state that it began with.
use Rattle.std.specs.Prelude.{List, [], ◌∷◌, map}
use Rattle.std.specs.FinMap as finite
use Rattle.std.specs.FinSet as set
use Rattle.sf_value.specs.Keys.{key_of}
use Rattle.sf_value.specs.declared.value.Value.{Value}
use Rattle.sf_value.specs.declared.value.Ref.{Ref}
use Rattle.few_entities.specs.Entries.{refs_of}
use Rattle.source_meaning.specs.declared.transaction.Transaction.{Transaction}
use Rattle.program_meaning.specs.World.{State, Keys, World}

-- a state with these records in place of its own
abbrev pub with_records : State → List (Ref × List Value) → State
with_records s [] = s
with_records s (e ∷ es) = finite.insert (with_records s es) (key_of e.0) e.1

abbrev pub keys_of : List Ref → Keys
keys_of refs = set.from_list (map key_of refs)

abbrev pub entities_of : List (Ref × List Value) → List Ref
entities_of entries = map (λ (e : Ref × List Value). e.0) entries

-- the world that a transaction sees that began with this state
abbrev pub world_of : State → Transaction → World
world_of s t = record { state = with_records s t.changed; reads = keys_of (refs_of t.read); writes = keys_of (entities_of t.changed) }
