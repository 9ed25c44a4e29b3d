-- The entries as what a transaction buffers. Of two entries of one entity the first counts.
use Rattle.std.specs.Prelude.{Bool, if◌then◌else◌, ◌||◌, List, [], ◌∷◌, map as over, Some, None, option_map}
use Rattle.std.specs.declared.option.Option.{Option}
use Rattle.std.specs.Option.{option_or}
use Rattle.std.specs.FinMap as finite
use Rattle.std.specs.FinSet as set
use Rattle.sf_value.specs.Keys.{Key, key_of}
use Rattle.sf_value.specs.declared.value.Value.{Value}
use Rattle.sf_value.specs.declared.value.Ref.{Ref}
use Rattle.sf_value.specs.declared.value.Record.{Record}
use Rattle.keyed_state.specs.Contents.{Contents}
use Rattle.keyed_state.specs.Works.{Keys, keys_of}
use Rattle.transaction_buffers.specs.declared.buffers.Touched.{Touched}
use Rattle.transaction_buffers.specs.Buffered.{Buffered}

-- one more event of an entity: its record is what the event left, and it stays written once it was
abbrev pub with_event : Touched → Option Record → Bool → Touched
with_event t held wrote = record { own = option_or held t.own; wrote = t.wrote || wrote }

-- what is done with an entity, once one more event of it is noted
abbrev pub next_touched : Option Touched → Option Record → Bool → Touched
next_touched None held wrote = record { own = held; wrote = wrote }
next_touched (Some t) held wrote = with_event t held wrote

-- Entries

abbrev pub own_fields : Touched → Option (List Value)
own_fields t = option_map (λ r. r.fields) t.own

abbrev pub with_own : Contents → Key → Option (List Value) → Contents
with_own s at None = finite.remove s at
with_own s at (Some fields) = finite.insert s at fields

-- the records that the transaction has of its own
abbrev pub own_in : List (Ref × Touched) → Contents
own_in [] = finite.empty
own_in (e ∷ more) = with_own (own_in more) (key_of e.0) (own_fields e.1)

-- the entities that it wrote
abbrev pub written_in : List (Ref × Touched) → Keys
written_in [] = set.empty
written_in (e ∷ more) = if e.1.wrote then set.insert (written_in more) (key_of e.0) else set.remove (written_in more) (key_of e.0)

abbrev pub buffered_in : List (Ref × Touched) → Buffered
buffered_in entries = record { own = own_in entries; reads = keys_of (over (λ (e : Ref × Touched). e.0) entries); writes = written_in entries }
