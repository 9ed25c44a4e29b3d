-- What a run is summed up as: how many requests there were, what the history and the state hold, and what was counted of the batches.
use Rattle.std.specs.Prelude.{◌≡◌, ℕ, List, [], ◌∷◌, length, codes, decimal}
use Rattle.std.specs.Fmt.{signed_decimal}
use Rattle.std.specs.List.{concat}
use Rattle.program_meaning.specs.Serial.{outcomes_of}
use Rattle.engine.specs.Cores.{Core}
use Rattle.wide_sums.specs.Sums.{sum_of}
use Rattle.batch_session.specs.Vocabulary.{Tally, BatchCounts, events_in, failure_count}
use Rattle.generated_run.specs.declared.summing.Summary.{Summary}
use Rattle.generated_run.specs.Totals.{IsTotal}

-- how many batches were run, and how many events operators handled for them
pub record EventCounts : Type 0 where
  pub batches : ℕ
  pub events : ℕ

-- those of batches with these counts
abbrev pub counts_of : List BatchCounts → EventCounts
counts_of counts = record { batches = length counts; events = events_in counts }

-- those that a tally has
abbrev pub counted_by : Tally → EventCounts
counted_by tally = record { batches = tally.batches; events = tally.events }

-- the entries of the history are counted, and those of them that failed; the balances of the state are added up
pub record IsSummary (size : ℕ) (core : Core) (counted : EventCounts) (summary : Summary) : Type 0 where
  pub requests : summary.requests ≡ size
  pub committed : summary.committed ≡ length core.history
  pub failed : summary.failed ≡ failure_count (outcomes_of core.history)
  pub batches : summary.batches ≡ counted.batches
  pub events : summary.events ≡ counted.events
  pub total : IsTotal core.state (sum_of summary.total)

-- `requests M committed C failed F batches B events E total T`
abbrev pub summary_line : Summary → List ℕ
summary_line s =
    concat
    (codes "requests " ∷ decimal s.requests ∷ codes " committed " ∷ decimal s.committed ∷ codes " failed " ∷ decimal s.failed
    ∷ codes " batches " ∷ decimal s.batches ∷ codes " events " ∷ decimal s.events ∷ codes " total " ∷ signed_decimal (sum_of s.total) ∷ codes "\n" ∷ [])
