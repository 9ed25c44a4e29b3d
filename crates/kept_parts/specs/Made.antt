-- The history and the state that are made of what was kept, or why there is none.
use Rattle.std.specs.Prelude.{◌≡◌, true, false, bytes_eq, List, Some, None}
use Rattle.std.specs.declared.option.Option.{Option}
use Rattle.std.specs.FinMap as finite
use Rattle.std.specs.List.{IsDistinct}
use Rattle.sf_value.specs.declared.Entry.{Entry}
use Rattle.sf_value.specs.declared.Held.{Held}
use Rattle.request_history.specs.declared.history.History.{History}
use Rattle.keyed_state.specs.declared.keyed.Keyed.{Keyed}
use Rattle.keyed_state.specs.Works.{with_records, entities_differ}
use Rattle.kept_parts.specs.Ids.{entry_ids}

-- it has these entries, whose ids differ; and there is none where they don't
abbrev pub IsHistoryOf : List Entry → Option History → Type 0
IsHistoryOf entries (Some history) = (history.entries ≡ entries) × IsDistinct bytes_eq (entry_ids entries)
IsHistoryOf entries None = IsDistinct bytes_eq (entry_ids entries) → ⊥

-- it holds these records, whose entities differ; and there is none where they don't
abbrev pub IsStateOf : List Held → Option Keyed → Type 0
IsStateOf records (Some state) = (state.contents ≡ with_records finite.empty records) × (entities_differ records ≡ true)
IsStateOf records None = entities_differ records ≡ false
