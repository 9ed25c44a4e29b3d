-- The table of the history, seen as its entries in the order in which they were committed, and the room that it has.
use Rattle.std.specs.Prelude.{ℕ, List, map, refl}
use Rattle.std.specs.Coded.{Coded, coded_ℕ, coded×, coded_list, code_by}
use Rattle.sf_value.specs.declared.Entry.{Entry}
use Rattle.sf_value.specs.contracts.Entry as row
use Rattle.sf_value.specs.declared.text.Text.{Text}
use Rattle.request_history.specs.declared.history.Committed.{Committed}
use Rattle.request_history.specs.declared.history.Found.{Found}
use Rattle.request_history.specs.Repeats.{Kept}

-- an entry, from its id and what else is kept of it
abbrev pub kept_entry : Text × Committed → Entry
kept_entry e = record { request = record { id = e.0; act = e.1.act }; outcome = e.1.outcome }

abbrev pub entries_of : List (Text × Committed) → List Entry
entries_of = map kept_entry

-- the entries, and how many can join them without memory
pub record Stored : Type 0 where
  pub entries : List Entry
  pub spare : ℕ

abbrev pub stored_code : Coded Stored
stored_code =
    code_by (List Entry × ℕ) (coded× (coded_list row.the_row.coded) coded_ℕ) (λ s. (s.entries, s.spare)) (λ p. record { entries = p.0; spare = p.1 })
    (λ _. refl)

-- an entry that was found, with its place
abbrev pub kept_at : Found → Kept
kept_at found = record { place = found.seq; entry = kept_entry (found.id.now, found.committed.now) }
