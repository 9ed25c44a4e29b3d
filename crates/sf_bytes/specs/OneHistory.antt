-- That what is named of a file is one history, or none that breaks at one place, and that it grows by what is put behind it.
use Rattle.std.specs.Prelude.{◌≡◌, ◌+◌, ◌≤◌, ℕ, List as Items, ◌++◌, length, take}
use Rattle.sf_value.specs.declared.Entry.{Entry}
use Rattle.sf_bytes.specs.Entries.{EntriesTo, HistoryIs, HistoryBreaks}
use Rattle.sf_bytes.specs.Gates.{StandsAt}

abbrev pub HistoryIsOne : Type 0
HistoryIsOne = (file : Items ℕ) (kept bytes : ℕ) (entries others : Items Entry) → HistoryIs file kept bytes entries → HistoryIs file kept bytes others
    → entries ≡ others

abbrev pub HistoryIsWhole : Type 0
HistoryIsWhole = (file : Items ℕ) (kept bytes : ℕ) (entries : Items Entry) (at : ℕ) → HistoryIs file kept bytes entries → HistoryBreaks file kept bytes at → ⊥

abbrev pub BreakIsOne : Type 0
BreakIsOne = (file : Items ℕ) (kept bytes at place : ℕ) → HistoryBreaks file kept bytes at → HistoryBreaks file kept bytes place → at ≡ place

-- what stands behind the bytes that are named doesn't count
abbrev pub HistoryStays : Type 0
HistoryStays = (before now : Items ℕ) (kept bytes reach : ℕ) (entries : Items Entry) → HistoryIs before kept bytes entries → bytes ≤ reach
    → take reach now ≡ take reach before → HistoryIs now kept bytes entries

-- entries that are put there do, once they are named too
abbrev pub HistoryGrows : Type 0
HistoryGrows = (file more : Items ℕ) (kept bytes : ℕ) (entries added : Items Entry) → HistoryIs file kept bytes entries
    → StandsAt file bytes more → EntriesTo more 0 added (length more)
    → HistoryIs file (kept + length added) (bytes + length more) (entries ++ added)
