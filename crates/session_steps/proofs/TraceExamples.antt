-- What is counted and traced of two batches, worked out by hand.
use Rattle.std.proofs.Common.{◌≡◌, ◌-◌, ◌^◌, [], ◌∷◌, codes, refl}
use Rattle.std.specs.Fmt.{digits}
use Rattle.line_answers.specs.Vocabulary.{BatchCounts}
use Rattle.session_steps.specs.Traces.{no_batch, with_batch, tally_after, trace_lines}

-- of seven requests that waited five were committed, one of which failed; and then both that waited on
abbrev first : BatchCounts
first = record { pending = 7; committed = 5; failed = 1; events = 42 }

abbrev second : BatchCounts
second = record { pending = 2; committed = 2; failed = 0; events = 10 }

counted : tally_after no_batch (first ∷ second ∷ []) ≡ record { batches = 2; events = 52; failed = 1 }
unfolding tally_after
counted = refl

traced : trace_lines no_batch (first ∷ second ∷ []) ≡ codes "batch 1: pending 7, committed 5, events 42\n" ∷ codes
    "batch 2: pending 2, committed 2, events 10\n" ∷ []
unfolding trace_lines digits
traced = refl

-- a count that is full stays full
full : with_batch (record { batches = 2 ^ 64 - 1; events = 2 ^ 64 - 20; failed = 3 }) first ≡ record { batches = 2 ^ 64 - 1; events = 2 ^ 64 - 1; failed = 4 }
full = refl
