-- The core that a snapshot holds, and when a snapshot fits a program.
use Rattle.std.specs.Prelude.{◌≡◌, ◌≤◌, ◌<◌, ◌^◌, true, bytes_eq, List, length}
use Rattle.std.specs.List.{AllByRecursion, IsDistinct}
use Rattle.py_tree.specs.ClassRules.{PlainTable}
use Rattle.sf_value.specs.declared.Held.{Held}
use Rattle.sf_value.specs.declared.Snapshot.{Snapshot}
use Rattle.program_meaning.specs.Fits.{RecordFits}
use Rattle.program_meaning.specs.Serial.{no_state}
use Rattle.keyed_state.specs.Works.{with_records, entities_differ}
use Rattle.request_history.specs.SoundHistory.{RequestFits, EntriesFit}
use Rattle.engine.specs.Cores.{Core, ids_of}

abbrev pub core_of_snapshot : Snapshot → Core
core_of_snapshot kept = record { history = kept.history; state = with_records no_state kept.records; pending = kept.pending }

-- the record of an entity fits the entity's class
abbrev pub HeldFits : List PlainTable → Held → Type 0
HeldFits tables held = RecordFits tables held.at.class held.fields.fields

-- a snapshot fits a program: its requests do, what the committed ones came to, and its records; each id and each entity stands once; and one
-- request more may come and wait
pub record SnapshotFits (tables : List PlainTable) (kept : Snapshot) : Type 0 where
  pub entries : EntriesFit tables kept.history
  pub records : AllByRecursion (HeldFits tables) kept.records
  pub requests : AllByRecursion (RequestFits tables) kept.pending
  pub ids : IsDistinct bytes_eq (ids_of (core_of_snapshot kept))
  pub entities : entities_differ kept.records ≡ true
  pub few : length kept.pending ≤ 255
  pub places : length kept.history < 2 ^ 32
