-- The records of a transaction become those of the state.
use Rattle.std.proofs.Common.{◌≡◌, false, cond, true≢false, List, [], ◌∷◌, Some, refl, sym, ap, ◌∙◌}
use Rattle.std.specs.FinMap as finite
use Rattle.std.specs.List.{AllByRecursion, IsDistinct}
use Rattle.std.specs.Ordering.{eq_by_cmp}
use Rattle.indexmap.specs.IndexMap.{insert_entry, insert_all}
use Rattle.sf_value.specs.Keys.{key_cmp, key_of}
use Rattle.sf_value.specs.declared.value.Value.{Value}
use Rattle.sf_value.specs.declared.value.Ref.{Ref}
use Rattle.sf_value.proofs.Maps.{key_total, key_exact, ref_eq, tied_refl, tied_key, swapped, insert-keyed}
use Rattle.program_meaning.specs.World.{State}
use Rattle.source_meaning.specs.StateView.{state_of}
use Rattle.source_meaning.specs.Transactions.{with_records, entities_of}

-- two records of two entities are written in any order
insert-swap : (s : State) (k l : Ref) (v w : List Value) → ref_eq k l ≡ false → finite.insert (finite.insert s (key_of k) v) (key_of l) w ≡ finite.insert (finite.insert s (key_of l) w) (key_of k) v
insert-swap s k l v w apart = finite.same_map key_total key_exact _ _ (λ q.
    finite.get-insert key_total (finite.insert s (key_of k) v) (key_of l) w q
    ∙ ap (λ o. cond (eq_by_cmp key_cmp q (key_of l)) (Some w) o) (finite.get-insert key_total s (key_of k) v q)
    ∙ swapped (eq_by_cmp key_cmp q (key_of l)) (eq_by_cmp key_cmp q (key_of k)) (Some w) (Some v) (finite.get s q) (λ a b. true≢false (sym (tied_refl k l (sym (tied_key q (key_of k) b) ∙ tied_key q (key_of l) a)) ∙ apart))
    ∙ sym (finite.get-insert key_total (finite.insert s (key_of l) w) (key_of k) v q ∙ ap (λ o. cond (eq_by_cmp key_cmp q (key_of k)) (Some v) o) (finite.get-insert key_total s (key_of l) w q)))

swap_in : (s : State) (k : Ref) (v : List Value) (es : List (Ref × List Value)) → AllByRecursion (λ y. ref_eq k y ≡ false) (entities_of es) → with_records (finite.insert s (key_of k) v) es ≡ finite.insert (with_records s es) (key_of k) v
swap_in s k v [] apart = refl
swap_in s k v (e ∷ es) apart = ap (λ m. finite.insert m (key_of e.0) e.1) (swap_in s k v es apart.1) ∙ insert-swap (with_records s es) k e.0 v e.1 apart.0

pub all_put : (old xs : List (Ref × List Value)) → IsDistinct ref_eq (entities_of xs) → state_of (insert_all ref_eq old xs) ≡ with_records (state_of old) xs
unfolding IsDistinct
all_put old [] distinct = refl
all_put old (x ∷ xs) distinct = all_put (insert_entry ref_eq old x.0 x.1) xs distinct.1 ∙ ap (λ s. with_records s xs) (insert-keyed old x.0 x.1) ∙ swap_in (state_of old) x.0 x.1 xs distinct.0
