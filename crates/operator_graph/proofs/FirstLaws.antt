-- The flights of requests before any event is handled, one after another.
use Rattle.std.proofs.Common.{◌≡◌, ◌∙◌, ℕ, suc, arith, ◌+◌, ◌≤◌, ◌<◌, List, [], ◌∷◌, ◌++◌, length, drop, get_or, append-nil, append_assoc, refl, sym, ap}
use Rattle.std.proofs.Math.ListN.{drop_of_length-le}
use Rattle.sf_value.specs.declared.Act.{Act}
use Rattle.sf_value.specs.declared.Request.{Request}
use Rattle.program_meaning.specs.ClassTables.{Source}
use Rattle.operator_graph.specs.declared.flight.Flight.{Flight}
use Rattle.operator_graph.specs.FirstFlights.{acts_of, first_flight, first_flights}
use Rattle.operator_graph.proofs.GoingLaws.{from_item}

pub first_more : (src : Source) (tx : ℕ) (asked : Act) (more : List Act) → first_flights src tx (asked ∷ more) ≡ first_flight src tx asked ∷ first_flights src (suc tx) more
unfolding first_flights
first_more src tx asked more = refl

pub first_none : (src : Source) (tx : ℕ) → first_flights src tx [] ≡ []
unfolding first_flights
first_none src tx = refl

-- one flight more
pub flight_more : (src : Source) (requests : List Request) (tx : ℕ) (r : Request) (made new all : List Flight) → tx < length requests → r ≡ get_or requests tx r → new ≡ made ++ first_flight src tx r.act ∷ []
    → made ++ first_flights src tx (acts_of (drop tx requests)) ≡ all → new ++ first_flights src (tx + 1) (acts_of (drop (tx + 1) requests)) ≡ all
flight_more src requests tx r made new all within is one so_far =
    let later : List Act = acts_of (drop (tx + 1) requests) in
    let next : tx + 1 ≡ suc tx = omega arith in
    ap (λ fs. fs ++ first_flights src (tx + 1) later) one
    ∙ append_assoc made (first_flight src tx r.act ∷ []) (first_flights src (tx + 1) later)
    ∙ ap (λ k. made ++ first_flight src tx r.act ∷ first_flights src k later) next
    ∙ ap (λ fs. made ++ fs) (sym (first_more src tx r.act later))
    ∙ ap (λ rs. made ++ first_flights src tx (acts_of rs)) (sym (from_item requests tx r within is))
    ∙ so_far

-- no request is left
pub flights_end : (src : Source) (requests : List Request) (tx : ℕ) (made all : List Flight) → length requests ≤ tx → made ++ first_flights src tx (acts_of (drop tx requests)) ≡ all → made ≡ all
flights_end src requests tx made all past so_far =
    sym (append-nil made) ∙ ap (λ fs. made ++ fs) (sym (first_none src tx)) ∙ ap (λ rs. made ++ first_flights src tx (acts_of rs)) (sym (drop_of_length-le requests past)) ∙ so_far

pub as_many_flights : (src : Source) (tx : ℕ) (acts : List Act) → length (first_flights src tx acts) ≡ length acts
unfolding first_flights
as_many_flights src tx [] = refl
as_many_flights src tx (asked ∷ more) = ap suc (as_many_flights src (suc tx) more)
