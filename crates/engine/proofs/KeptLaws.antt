-- The core that a snapshot holds, and the snapshot of a core.
use Rattle.std.proofs.Common.{◌≡◌, ◌≤◌, ◌<◌, ◌^◌, true, Option, Some, None, List, length, refl, sym, subst}
use Rattle.std.specs.Prelude.{bytes_eq}
use Rattle.std.specs.List.{IsDistinct}
use Rattle.py_tree.specs.ClassRules.{PlainTable}
use Rattle.sf_value.specs.declared.Entry.{Entry}
use Rattle.sf_value.specs.declared.Held.{Held}
use Rattle.sf_value.specs.declared.Snapshot.{Snapshot}
use Rattle.program_meaning.specs.Serial.{no_state}
use Rattle.request_history.specs.declared.history.History.{History}
use Rattle.keyed_state.specs.declared.keyed.Keyed.{Keyed}
use Rattle.keyed_state.specs.Works.{with_records, entities_differ}
use Rattle.kept_parts.specs.Ids.{entry_ids}
use Rattle.kept_parts.specs.Made.{IsHistoryOf, IsStateOf}
use Rattle.kept_parts.proofs.StateLaws.{state_of_fits, fits_of_state}
use Rattle.engine.specs.Cores.{Core, CoreFits}
use Rattle.engine.specs.Kept.{core_of_snapshot, SnapshotFits}

module _ (tables : List PlainTable) (kept : Snapshot) where
  -- a snapshot that fits holds a core that does
  pub kept_core_fits : SnapshotFits tables kept → CoreFits tables (core_of_snapshot kept)
  kept_core_fits fits = record {
    entries = fits.entries;
    state = state_of_fits tables kept.records fits.records;
    pending = record { requests = fits.requests; ids = fits.ids };
  }

  -- a core that fits is held by a snapshot that does
  pub snapshot_fits : (core : Core) → core_of_snapshot kept ≡ core → entities_differ kept.records ≡ true → length core.pending ≤ 255 → length core.history < 2 ^ 32 → CoreFits tables core → SnapshotFits tables kept
  snapshot_fits core same once few placed fits =
      let own = subst (CoreFits tables) (sym same) fits in
      record {
        entries = own.entries;
        records = fits_of_state tables kept.records once own.state;
        requests = own.pending.requests;
        ids = own.pending.ids;
        entities = once;
        few = subst (λ (c : Core). length c.pending ≤ 255) (sym same) few;
        places = subst (λ (c : Core). length c.history < 2 ^ 32) (sym same) placed;
      }

-- What was made of a snapshot's parts

pub none_history : (all : List Entry) (o : Option History) → ((h : History) → o ≡ Some h → ⊥) → IsHistoryOf all o → IsDistinct bytes_eq (entry_ids all) → ⊥
none_history all None other is differ = is differ
none_history all (Some h) other is differ = other h refl

pub history_is : (all : List Entry) (o : Option History) (h : History) → o ≡ Some h → IsHistoryOf all o → (h.entries ≡ all) × IsDistinct bytes_eq (entry_ids all)
history_is all o h some is = subst (IsHistoryOf all) some is

pub state_is : (all : List Held) (o : Option Keyed) (s : Keyed) → o ≡ Some s → IsStateOf all o → (s.contents ≡ with_records no_state all) × (entities_differ all ≡ true)
state_is all o s some is = subst (IsStateOf all) some is
