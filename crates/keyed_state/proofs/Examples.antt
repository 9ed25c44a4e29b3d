-- Two small works, and what committing them makes.
use Rattle.std.proofs.Common.{◌≡◌, ℕ, true, false, List, [], ◌∷◌, refl}
use Rattle.std.specs.Prelude.{codes}
use Rattle.std.specs.FinMap as finite
use Rattle.sf_value.specs.Keys.{key_of}
use Rattle.sf_value.specs.declared.value.Value.{Value}
use Rattle.sf_value.specs.declared.value.Value.TheVariants as value
use Rattle.sf_value.specs.declared.value.Ref.{Ref}
use Rattle.sf_value.specs.declared.Held.{Held}
use Rattle.keyed_state.specs.declared.Work.{Work}
use Rattle.keyed_state.specs.Works.{written_records, after_writes, written_count, are_places, entities_differ}

abbrev entity : List ℕ → Ref
entity key = record { class = 0; key = key }

abbrev one : List Value
one = value.Bool true ∷ []

abbrev other : List Value
other = value.Nil ∷ []

abbrev held : List ℕ → List Value → Held
held key fields = record { at = entity key; fields = record { fields = fields } }

-- reads a and b, and writes b
abbrev reader : Work
reader = record { held = held (codes "a") one ∷ held (codes "b") other ∷ []; reads = entity (codes "a") ∷ entity (codes "b") ∷ []; writes = entity (codes "b") ∷ [] }

-- writes a, of which it holds two records
abbrev writer : Work
writer = record { held = held (codes "a") other ∷ held (codes "a") one ∷ []; reads = entity (codes "a") ∷ []; writes = entity (codes "a") ∷ [] }

-- a record that was only read isn't written
only_written : written_records reader ≡ held (codes "b") other ∷ []
only_written = refl

-- the second work alone: its first record of the entity is the one that stays
second_alone : after_writes finite.empty (reader ∷ writer ∷ []) (1 ∷ []) ≡ finite.insert (finite.insert finite.empty (key_of (entity (codes "a"))) one) (key_of (entity (codes "a"))) other
second_alone = refl

-- both, in the order of the places
second_first : after_writes finite.empty (reader ∷ writer ∷ []) (1 ∷ 0 ∷ []) ≡ finite.insert (after_writes finite.empty (reader ∷ writer ∷ []) (1 ∷ [])) (key_of (entity (codes "b"))) other
second_first = refl

three_records : written_count (reader ∷ writer ∷ []) (1 ∷ 0 ∷ []) ≡ 3
three_records = refl

-- a place past the end, and one that stands twice
past_the_end : are_places 2 (1 ∷ 2 ∷ []) ≡ false
past_the_end = refl

twice : are_places 2 (1 ∷ 0 ∷ 1 ∷ []) ≡ false
twice = refl

one_twice : entities_differ writer.held ≡ false
one_twice = refl
