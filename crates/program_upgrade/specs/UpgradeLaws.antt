-- What was kept under an earlier program fits one that follows it, once the added values stand in its records.
use Rattle.std.specs.Prelude.{◌≡◌, ℕ, List, [], slice_index_or, option_map}
use Rattle.std.specs.FinMap as finite
use Rattle.sf_value.specs.Keys.{Key}
use Rattle.sf_value.specs.declared.Entry.{Entry}
use Rattle.sf_value.specs.declared.Held.{Held}
use Rattle.sf_value.specs.declared.Request.{Request}
use Rattle.sf_value.specs.declared.value.Value.{Value}
use Rattle.keyed_state.specs.Works.{with_records, entities_differ}
use Rattle.request_history.specs.SoundHistory.{RequestFits, EntriesFit}
use Rattle.program_meaning.specs.ClassTables.{Source}
use Rattle.program_meaning.specs.Fits.{RecordFits, StateFits}
use Rattle.program_meaning.specs.LightValues.{AreLight}
use Rattle.program_meaning.specs.NothingGoesWrong.{IsKnownAccepted}
use Rattle.program_meaning.specs.Serial.{no_state}
use Rattle.program_meaning.specs.World.{State}
use Rattle.program_upgrade.specs.UpgradeRules.{tables_in, Follows, added_values}
use Rattle.program_upgrade.specs.Mapping.{with_added, mapped_records, mapped_state, upgraded_state}

-- an accepted program follows another
pub record IsUpgrade (old new : Source) : Type 0 where
  pub later : IsKnownAccepted new.names new.program
  pub follows : Follows old new

-- a record
abbrev pub RecordsStillFit : Type 0
RecordsStillFit = (old new : Source) → IsUpgrade old new → (class : ℕ) (fields : List Value) → RecordFits (tables_in old) class fields
    → RecordFits (tables_in new) class (with_added (added_values old new) class fields)

-- a state
abbrev pub StatesStillFit : Type 0
StatesStillFit = (old new : Source) → IsUpgrade old new → (s : State) → StateFits (tables_in old) s → StateFits (tables_in new) (upgraded_state old new s)

-- a request, also one that waits
abbrev pub RequestsStillFit : Type 0
RequestsStillFit = (old new : Source) → IsUpgrade old new → (r : Request) → RequestFits (tables_in old) r → RequestFits (tables_in new) r

-- a history, with what its requests came to
abbrev pub EntriesStillFit : Type 0
EntriesStillFit = (old new : Source) → IsUpgrade old new → (entries : List Entry) → EntriesFit (tables_in old) entries → EntriesFit (tables_in new) entries

-- the added values weigh no more than values may
abbrev pub AddedAreLight : Type 0
AddedAreLight = (old new : Source) (class : ℕ) → AreLight (slice_index_or (added_values old new) class [])

-- a mapped state has the entities of the state, each with its record, behind which the added values stand
abbrev pub EachIsMapped : Type 0
EachIsMapped = (added : List (List Value)) (s : State) (at : Key) → finite.get (mapped_state added s) at ≡ option_map (with_added added at.0) (finite.get s at)

-- mapped records are the mapped state
abbrev pub RecordsAreMapped : Type 0
RecordsAreMapped = (added : List (List Value)) (records : List Held) → with_records no_state (mapped_records added records) ≡ mapped_state added (with_records no_state records)

-- and each entity stands in them as often as before
abbrev pub EntitiesStay : Type 0
EntitiesStay = (added : List (List Value)) (records : List Held) → entities_differ (mapped_records added records) ≡ entities_differ records
