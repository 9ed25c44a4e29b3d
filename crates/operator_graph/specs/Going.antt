-- Which flights go on, what their events weigh, and what they have come to.
use Rattle.std.specs.Prelude.{ℕ, zero, suc, if◌then◌else◌, List, [], ◌∷◌, map}
use Rattle.sf_value.specs.declared.Outcome.{Outcome}
use Rattle.sf_value.specs.declared.Outcome.TheVariants as outcome
use Rattle.sf_value.specs.declared.value.Value.TheVariants as value
use Rattle.block_code.specs.declared.event.EventKind.{EventKind}
use Rattle.block_code.specs.declared.event.EventKind.TheVariants as kind
use Rattle.block_runs.specs.StepFalls.{weight}
use Rattle.interleaving.specs.AsAlone.{sum_of}
use Rattle.transaction_steps.specs.Transactions.{is_done}
use Rattle.operator_graph.specs.declared.flight.Flight.{Flight}

-- how many go on
unfoldable pub going : List Flight → ℕ
going [] = zero
going (f ∷ fs) = if is_done f.next.kind then going fs else suc (going fs)

-- the places of those that go on, where the first flight has this place
unfoldable pub places_going : ℕ → List Flight → List ℕ
places_going i [] = []
places_going i (f ∷ fs) = if is_done f.next.kind then places_going (suc i) fs else i ∷ places_going (suc i) fs

-- here, or at a later place
abbrev pub here_or : ℕ → (ℕ → ℕ) → ℕ
here_or zero later = zero
here_or (suc k) later = suc (later k)

-- the place of one of those that go on, by its number among them
unfoldable pub place_going : ℕ → List Flight → ℕ
place_going k [] = zero
place_going k (f ∷ fs) = if is_done f.next.kind then suc (place_going k fs) else here_or k (λ j. place_going j fs)

-- more than how many events may still come
abbrev pub weights : List Flight → ℕ
weights = sum_of (λ (f : Flight). weight f.next)

-- what an event has come to, where nothing is left to do
abbrev pub come_to : EventKind → Outcome
come_to (kind.Done outcome) = outcome
come_to k = outcome.Value value.Nil

abbrev pub all_come_to : List Flight → List Outcome
all_come_to = map (λ (f : Flight). come_to f.next.kind)
