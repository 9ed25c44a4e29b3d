-- Tables in which more is reserved.
use Rattle.std.proofs.Common.{◌≡◌, ◌∙◌, ℕ, Bool, true, false, cond, ◌||◌, List, [], ◌∷◌, ◌++◌, map as over, Option, Some, refl, sym, ap}
use Rattle.std.specs.Prelude.{is_some}
use Rattle.std.specs.List.{list_any}
use Rattle.std.specs.Ordering.{eq_by_cmp}
use Rattle.std.specs.FinMap as finite
use Rattle.std.specs.FinSet as set
use Rattle.std.proofs.lemmas.List.{map-append}
use Rattle.std.proofs.lemmas.List.Folds.{list_any-append}
use Rattle.sf_value.specs.Keys.{Key, key_cmp, key_of}
use Rattle.sf_value.specs.declared.value.Ref.{Ref}
use Rattle.sf_value.proofs.Maps.{key_total}
use Rattle.keyed_state.specs.Works.{keys_of}
use Rattle.reservations.specs.Reservations.{Reserved}
use Rattle.batch_reorder.specs.Turns.{Grows}

pub grows_by_none : (old : Reserved) → Grows old old []
grows_by_none old = record { at = λ q. sym (ap (λ b. b || is_some (finite.get old q)) (set.contains-empty key_cmp q)) }

there_or : (b : Bool) (place : ℕ) (o : Option ℕ) → is_some (cond b (Some place) o) ≡ (b || is_some o)
there_or true place o = refl
there_or false place o = refl

or_moved : (a b c : Bool) → (a || (b || c)) ≡ ((b || (a || false)) || c)
or_moved true true c = refl
or_moved true false c = refl
or_moved false true c = refl
or_moved false false c = refl

pub grows_one_more : (old now new : Reserved) (place : ℕ) (refs more : List Ref) (at : Ref) → more ≡ refs ++ at ∷ [] → new ≡ finite.insert now (key_of at) place → Grows old now refs → Grows old new more
grows_one_more old now new place refs more at is made before = record { at = grown }
  where
    keys : (q : Key) → set.contains (keys_of more) q ≡ (set.contains (keys_of refs) q || (eq_by_cmp key_cmp q (key_of at) || false))
    keys q =
        ap (λ l. set.contains (keys_of l) q) is
        ∙ set.contains-from_list key_total (over key_of (refs ++ at ∷ [])) q
        ∙ ap (list_any (eq_by_cmp key_cmp q)) (map-append key_of refs (at ∷ []))
        ∙ list_any-append (eq_by_cmp key_cmp q) (over key_of refs) (key_of at ∷ [])
        ∙ ap (λ b. b || (eq_by_cmp key_cmp q (key_of at) || false)) (sym (set.contains-from_list key_total (over key_of refs) q))

    grown : (q : Key) → is_some (finite.get new q) ≡ (set.contains (keys_of more) q || is_some (finite.get old q))
    grown q =
        ap (λ m. is_some (finite.get m q)) made
        ∙ ap is_some (finite.get-insert key_total now (key_of at) place q)
        ∙ there_or (eq_by_cmp key_cmp q (key_of at)) place (finite.get now q)
        ∙ ap (λ b. eq_by_cmp key_cmp q (key_of at) || b) (before.at q)
        ∙ or_moved (eq_by_cmp key_cmp q (key_of at)) (set.contains (keys_of refs) q) (is_some (finite.get old q))
        ∙ ap (λ b. b || is_some (finite.get old q)) (sym (keys q))
