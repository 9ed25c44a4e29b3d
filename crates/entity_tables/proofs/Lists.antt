-- Faults along lists.
use Rattle.std.proofs.Common.{◌≡◌, ℕ, ◌+◌, ◌<◌, Option, Some, None, List, [], ◌∷◌, length, map, take, drop, get_or, sym, ap, ◌∙◌}
use Rattle.py_tree.specs.declared.rule.RuleFault.{RuleFault}
use Rattle.py_tree.specs.ClassRules.{first_of, first_behind}
use Rattle.py_tree.proofs.ListWalks.{map_from, map_more}
use Rattle.py_tree.proofs.ClassRuleLaws.{first_of_one}

-- from an item on, behind those before it
split_at : {X A : Type 0} (view : X → A) (fault : List A → A → Option RuleFault) (xs : List X) (i : ℕ) (x : X) → i < length xs → x ≡ get_or xs i x → first_behind fault (map view (take i xs)) (map view (drop i xs)) ≡ first_of (fault (map view (take i xs)) (view x) ∷ first_behind fault (map view (take (i + 1) xs)) (map view (drop (i + 1) xs)) ∷ [])
split_at view fault xs i x within is =
    ap (first_behind fault (map view (take i xs))) (map_from view xs i x within is)
    ∙ ap (λ zs. first_of (fault (map view (take i xs)) (view x) ∷ first_behind fault zs (map view (drop (i + 1) xs)) ∷ [])) (sym (map_more view xs i x within is))

-- an item without a fault
pub first_passes : {X A : Type 0} (view : X → A) (fault : List A → A → Option RuleFault) (xs : List X) (i : ℕ) (x : X) → i < length xs → x ≡ get_or xs i x → fault (map view (take i xs)) (view x) ≡ None → first_behind fault (map view (take i xs)) (map view (drop i xs)) ≡ first_behind fault (map view (take (i + 1) xs)) (map view (drop (i + 1) xs))
first_passes view fault xs i x within is none =
    split_at view fault xs i x within is ∙ ap (λ f. first_of (f ∷ first_behind fault (map view (take (i + 1) xs)) (map view (drop (i + 1) xs)) ∷ [])) none
    ∙ first_of_one (first_behind fault (map view (take (i + 1) xs)) (map view (drop (i + 1) xs)))

-- an item with one
pub first_stops : {X A : Type 0} (view : X → A) (fault : List A → A → Option RuleFault) (xs : List X) (i : ℕ) (x : X) (f : RuleFault) → i < length xs → x ≡ get_or xs i x → fault (map view (take i xs)) (view x) ≡ Some f → first_behind fault (map view (take i xs)) (map view (drop i xs)) ≡ Some f
first_stops view fault xs i x f within is some =
    split_at view fault xs i x within is ∙ ap (λ g. first_of (g ∷ first_behind fault (map view (take (i + 1) xs)) (map view (drop (i + 1) xs)) ∷ [])) some

pub ruleset first_laws = (first_passes, first_stops)
