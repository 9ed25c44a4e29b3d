-- A history in a file: its entries stand there one behind another from place 0 on. A head names how many of them count, and
-- how many bytes. Where these bytes aren't so many entries, the history breaks at a place.
use Rattle.std.specs.Prelude.{◌≡◌, ◌⊎◌, ◌+◌, ◌<◌, ◌≤◌, ℕ, List as Items, [], ◌∷◌, length}
use Rattle.sf_value.specs.declared.Entry.{Entry}
use Rattle.sf_bytes.specs.ByteForms.{entry_bytes}
use Rattle.sf_bytes.specs.Gates.{StandsAt}
use Rattle.sf_bytes.specs.Spelt.{IsReadEntry}

-- these entries are all that stands from one place of the file to another
abbrev pub EntriesTo : Items ℕ → ℕ → Items Entry → ℕ → Type 0
EntriesTo file at [] end = at ≡ end
EntriesTo file at (entry ∷ entries) end = IsReadEntry entry × StandsAt file at (entry_bytes entry) × EntriesTo file (at + length (entry_bytes entry)) entries end

-- so many entries are named, in so many bytes: it is these
pub record HistoryIs (file : Items ℕ) (kept bytes : ℕ) (entries : Items Entry) : Type 0 where
  pub stand : EntriesTo file 0 entries bytes
  pub count : length entries ≡ kept

-- fewer stand, up to this place, and none stands there whole, within the file and the bytes that are named
pub record LacksEntry (file : Items ℕ) (kept bytes at : ℕ) : Type 0 where
  pub entries : Items Entry
  pub stand : EntriesTo file 0 entries at
  pub within : at ≤ bytes
  pub fewer : length entries < kept
  pub none : (entry : Entry) → IsReadEntry entry → StandsAt file at (entry_bytes entry) → at + length (entry_bytes entry) ≤ bytes → ⊥

-- all stand, up to this place, and more bytes are named
pub record HasBytesOver (file : Items ℕ) (kept bytes at : ℕ) : Type 0 where
  pub entries : Items Entry
  pub stand : EntriesTo file 0 entries at
  pub count : length entries ≡ kept
  pub over : at < bytes

-- the history breaks at this place
abbrev pub HistoryBreaks : Items ℕ → ℕ → ℕ → ℕ → Type 0
HistoryBreaks file kept bytes at = LacksEntry file kept bytes at ⊎ HasBytesOver file kept bytes at
