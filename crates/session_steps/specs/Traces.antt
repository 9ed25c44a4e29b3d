-- What is counted and traced of the batches of a session.
use Rattle.std.specs.Prelude.{ℕ, ◌+◌, ◌-◌, ◌^◌, min, Bool, List, [], ◌∷◌, codes, decimal, if◌then◌else◌}
use Rattle.std.specs.List.{concat}
use Rattle.sf_outside.specs.Gains.{joined}
use Rattle.line_answers.specs.Vocabulary.{BatchCounts}
use Rattle.session_steps.specs.declared.tally.Tally.{Tally}

-- a count stops at the largest number that it can hold
abbrev pub count_to : ℕ → ℕ
count_to count = min count (2 ^ 64 - 1)

abbrev pub no_batch : Tally
no_batch = record { batches = 0; events = 0; failed = 0 }

-- one more batch, with these counts
abbrev pub with_batch : Tally → BatchCounts → Tally
with_batch t counts = record {
  batches = count_to (t.batches + 1);
  events = count_to (t.events + counts.events);
  failed = count_to (t.failed + counts.failed);
}

-- and more of them
unfoldable pub tally_after : Tally → List BatchCounts → Tally
tally_after t [] = t
tally_after t (counts ∷ more) = tally_after (with_batch t counts) more

-- how many events operators handled for batches with these counts, however many there are
unfoldable pub events_in : List BatchCounts → ℕ
events_in [] = 0
events_in (counts ∷ more) = counts.events + events_in more

-- `batch B: pending Q, committed C, events E`
abbrev pub trace_line : ℕ → BatchCounts → List ℕ
trace_line number counts =
    concat (codes "batch " ∷ decimal number ∷ codes ": pending " ∷ decimal counts.pending ∷ codes ", committed " ∷ decimal counts.committed
    ∷ codes ", events " ∷ decimal counts.events ∷ codes "\n" ∷ [])

-- the lines of batches behind those that are counted
unfoldable pub trace_lines : Tally → List BatchCounts → List (List ℕ)
trace_lines t [] = []
trace_lines t (counts ∷ more) = trace_line (with_batch t counts).batches counts ∷ trace_lines (with_batch t counts) more

-- their text, where batches are traced
abbrev pub trace_text : Bool → Tally → List BatchCounts → List ℕ
trace_text traces t counts = if traces then joined (trace_lines t counts) else []

-- The lines of batches that are numbered from the one behind so many on; and their text, where batches are traced. These number without an end: the lines above are the same
-- as long as a count can hold the number.
unfoldable pub lines_from : ℕ → List BatchCounts → List (List ℕ)
lines_from before [] = []
lines_from before (counts ∷ more) = trace_line (before + 1) counts ∷ lines_from (before + 1) more

abbrev pub numbered_text : Bool → List BatchCounts → List ℕ
numbered_text traces counts = if traces then joined (lines_from 0 counts) else []
