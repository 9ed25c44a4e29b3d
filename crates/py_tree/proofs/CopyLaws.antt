-- Copies of lists, seen by a view.
use Rattle.std.proofs.Common.{◌≡◌, ℕ, ◌+◌, ◌<◌, List, [], ◌∷◌, ◌++◌, length, map, take, get_or, sym, ap, ◌∙◌}
use Rattle.std.proofs.lemmas.List.{take_more, map-append}

-- one more copy in a walk over a list
pub map_step : {X A : Type 0} (view : X → A) (all made more : List X) (i : ℕ) (x y : X) → map view made ≡ map view (take i all) → i < length all → x ≡ get_or all i x → view y ≡ view x → more ≡ made ++ y ∷ [] → map view more ≡ map view (take (i + 1) all)
map_step view all made more i x y so_far within is same e =
    ap (map view) e ∙ map-append view made (y ∷ []) ∙ (λ j. so_far j ++ same j ∷ []) ∙ sym (map-append view (take i all) (x ∷ [])) ∙ ap (λ z. map view (take i all ++ z ∷ [])) is ∙ sym (ap (map view) (take_more all i x within))
