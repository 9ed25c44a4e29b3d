-- The core that was logged stays as it was when a request arrives.
use Rattle.std.proofs.Common.{◌≡◌, ◌+◌, ◌-◌, ◌≤◌, ℕ, List, [], ◌∷◌, ◌++◌, length, take, refl, ap, ◌∙◌, arith, length-append}
use Rattle.std.proofs.lemmas.List.{take_all, take-append-le}
use Rattle.sf_value.specs.declared.Request.{Request}
use Rattle.engine.specs.declared.arrival.Arrival.{Arrival}
use Rattle.engine.specs.declared.arrival.Arrival.TheVariants as arrival
use Rattle.engine.specs.Arrivals.{arrival_of, joined, counted}
use Rattle.engine.specs.Replays.{settled}
use Rattle.store_meaning.specs.Arrivals.{ArrivalsUnlogged, NoneUnlogged}

front_same : (requests : List Request) (fresh : ℕ) (r : Request) → fresh ≤ length requests
    → take (length (requests ++ r ∷ []) - (fresh + 1)) (requests ++ r ∷ []) ≡ take (length requests - fresh) requests
front_same requests fresh r among =
    let count : length (requests ++ r ∷ []) - (fresh + 1) ≡ length requests - fresh = omega (arith, length-append requests (r ∷ [])) in
    ap (λ n. take n (requests ++ r ∷ [])) count ∙ take-append-le (length requests - fresh) requests (r ∷ []) (omega arith)

pub arrivals_unlogged : ArrivalsUnlogged
arrivals_unlogged core fresh r among = by (arrival_of core r)
  where
    by : (met : Arrival) → settled (joined core r met) (counted fresh met) ≡ settled core fresh
    by arrival.New = λ i. record { history = core.history; state = core.state; pending = front_same core.pending fresh r among i }
    by (arrival.Again place) = refl
    by arrival.Waiting = refl
    by arrival.Reused = refl

pub none_unlogged : NoneUnlogged
none_unlogged core = λ i. record { history = core.history; state = core.state; pending = take_all (length core.pending - 0) core.pending (omega arith) i }
