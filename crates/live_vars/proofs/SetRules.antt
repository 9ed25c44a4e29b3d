-- What the sets of names have, name by name and block by block.
use Rattle.std.proofs.Common.{◌≡◌, ◌<◌, ◌≤◌, ◌+◌, arith, ℕ, zero, suc, Bool, true, false, cond, Some, None, List, [], ◌∷◌, ◌++◌, drop, get_or, length, map, refl, sym, ap, ◌∙◌, subst}
use Rattle.std.specs.Prelude.{◌||◌, slice_get, slice_set, option_map}
use Rattle.std.proofs.lemmas.List.{drop_all, length-map, map-append}
use Rattle.std.proofs.lemmas.Option.{same_Some, slice_get-map, slice_get_read}
use Rattle.py_tree.proofs.ListWalks.{map_from}
use Rattle.block_code.specs.declared.vars.VarType.{VarType}
use Rattle.block_code.specs.declared.block.Block.{Block}
use Rattle.block_code.specs.declared.block.Catch.{Catch}
use Rattle.block_code.specs.PlainVars.{PlainVar, plain_var, plain_vars}
use Rattle.block_code.specs.PlainBlocks.{PlainBlock, plain_catch, plain_catches, plain_block, plain_blocks}
use Rattle.live_vars.specs.declared.sets.NameSet.{NameSet}
use Rattle.live_vars.specs.Saved.{has, names_in, sets_of, with_name, has_in, has_at, caught_by, comes_live, none_for, State, state, list_if_there, with_new, visit, visit_params, visit_all}

-- Looking up

pub set_there : (sets : List NameSet) (n x : ℕ) (set : NameSet) → slice_get sets n ≡ Some set → has_at (sets_of sets) n x ≡ has (names_in set) x
set_there sets n x set is = ap (λ o. has_in o x) (slice_get-map names_in sets n ∙ ap (option_map names_in) is)

pub set_past : (sets : List NameSet) (n x : ℕ) → slice_get sets n ≡ None → has_at (sets_of sets) n x ≡ false
set_past sets n x is = ap (λ o. has_in o x) (slice_get-map names_in sets n ∙ ap (option_map names_in) is)

pub ruleset set_rules = (set_there, set_past)

module _ (lists : List (List ℕ)) (x : ℕ) (ks : List Catch) (i : ℕ) where
  pub catch_found : (k : Catch) → i < length ks → k ≡ get_or ks i k → has_at lists k.to x ≡ true → caught_by lists (plain_catches (drop i ks)) x ≡ true
  unfolding caught_by
  catch_found k within is h = ap (λ ks. caught_by lists ks x) (map_from plain_catch ks i k within is) ∙ (λ j. h j || caught_by lists (plain_catches (drop (i + 1) ks)) x)

  pub catch_past : (k : Catch) → i < length ks → k ≡ get_or ks i k → has_at lists k.to x ≡ false → caught_by lists (plain_catches (drop i ks)) x ≡ caught_by lists (plain_catches (drop (i + 1) ks)) x
  unfolding caught_by
  catch_past k within is h = ap (λ ks. caught_by lists ks x) (map_from plain_catch ks i k within is) ∙ (λ j. h j || caught_by lists (plain_catches (drop (i + 1) ks)) x)

  pub catch_end : length ks ≤ i → caught_by lists (plain_catches (drop i ks)) x ≡ false
  unfolding caught_by
  catch_end past = ap (λ ks. caught_by lists (plain_catches ks) x) (drop_all i ks past)

pub ruleset catch_rules = (catch_found, catch_past, catch_end)

-- Visits

pub set_length : {A : Type 0} (xs : List A) (at : ℕ) (x : A) → length (slice_set xs at x) ≡ length xs
set_length [] at x = refl
set_length (y ∷ xs) zero x = let n : length (x ∷ xs) ≡ length (y ∷ xs) = refl in n
set_length (y ∷ xs) (suc at) x = let n : length (slice_set xs at x) ≡ length xs = set_length xs at x in omega (arith, n)

set_map : {A B : Type 0} (f : A → B) (xs : List A) (at : ℕ) (x : A) → map f (slice_set xs at x) ≡ slice_set (map f xs) at (f x)
set_map f [] at x = refl
set_map f (y ∷ xs) zero x = refl
set_map f (y ∷ xs) (suc at) x = ap (λ ys. f y ∷ ys) (set_map f xs at x)

module _ (b : PlainBlock) (at x : ℕ) (old : List NameSet) (added : Bool) where
  by_tests : (p q : Bool) → has_at (sets_of old) at x ≡ p → comes_live (sets_of old) b x ≡ q → visit b at (state (sets_of old) added) x ≡ cond p (state (sets_of old) added) (cond q (state (with_new (sets_of old) at x) true) (state (sets_of old) added))
  by_tests p q e f = (λ j. cond (e j) (state (sets_of old) added) (cond (f j) (state (with_new (sets_of old) at x) true) (state (sets_of old) added)))

  pub visit_had : (set : NameSet) → slice_get old at ≡ Some set → has (names_in set) x ≡ true → state (sets_of old) added ≡ visit b at (state (sets_of old) added) x
  visit_had set is h = sym (by_tests true (comes_live (sets_of old) b x) (set_there old at x set is ∙ h) refl)

  pub visit_dead : (set : NameSet) → slice_get old at ≡ Some set → has (names_in set) x ≡ false → comes_live (sets_of old) b x ≡ false → state (sets_of old) added ≡ visit b at (state (sets_of old) added) x
  visit_dead set is h k = sym (by_tests false false (set_there old at x set is ∙ h) k)

  visit_added : (set new : NameSet) → slice_get old at ≡ Some set → has (names_in set) x ≡ false → comes_live (sets_of old) b x ≡ true → (more : List NameSet) → names_in new ≡ with_name (names_in set) x → more ≡ slice_set old at new
      → state (sets_of more) true ≡ visit b at (state (sets_of old) added) x
  visit_added set new is h k more grown made =
      ap (λ lists. state lists true) (ap sets_of made ∙ set_map names_in old at new ∙ ap (slice_set (sets_of old) at) (grown ∙ ap (λ o. with_name (list_if_there o) x) (sym (slice_get-map names_in old at ∙ ap (option_map names_in) is))))
      ∙ sym (by_tests false true (set_there old at x set is ∙ h) k)

-- as the code finds the set twice
pub visit_made : (b : PlainBlock) (at x : ℕ) (old shown : List NameSet) (added : Bool) (seen set new : NameSet) → shown ≡ old → at < length old → seen ≡ get_or shown at seen → has (names_in seen) x ≡ false → comes_live (sets_of old) b x ≡ true
    → slice_get old at ≡ Some set → names_in new ≡ with_name (names_in set) x → state (sets_of (slice_set old at new)) true ≡ visit b at (state (sets_of old) added) x
visit_made b at x old shown added seen set new e less seen_is absent comes is grown =
    let there : slice_get old at ≡ Some seen = slice_get_read old (length old) at seen refl less (seen_is ∙ ap (λ sets. get_or sets at seen) e) in
    let same : seen ≡ set = same_Some seen set (sym there ∙ is) in
    visit_added b at x old added set new is (subst (λ s. has (names_in s) x ≡ false) same absent) comes (slice_set old at new) grown refl

pub ruleset visit_rules = (visit_had, visit_dead)

-- as many sets stay

visit_length : (b : PlainBlock) (at x : ℕ) (s : State) → length (visit b at s x).lists ≡ length s.lists
visit_length b at x s = by (has_at s.lists at x) (comes_live s.lists b x)
  where
    by : (p q : Bool) → length (cond p s (cond q (state (with_new s.lists at x) true) s)).lists ≡ length s.lists
    by true q = refl
    by false true = set_length s.lists at _
    by false false = refl

params_length : (b : PlainBlock) (at : ℕ) (ps : List PlainVar) (s : State) → length (visit_params b at ps s).lists ≡ length s.lists
unfolding visit_params
params_length b at [] s = refl
params_length b at (p ∷ ps) s = params_length b at ps (visit b at s p.name) ∙ visit_length b at p.name s

as_many : (old new : List NameSet) (more : Bool) (s : State) → state (sets_of new) more ≡ s → length s.lists ≡ length (sets_of old) → length new ≡ length old
as_many old new more s e f = sym (length-map new names_in) ∙ ap (λ (s : State). length s.lists) e ∙ f ∙ length-map old names_in

pub visited_length : (old new : List NameSet) (added more : Bool) (b : PlainBlock) (at x : ℕ) → state (sets_of new) more ≡ visit b at (state (sets_of old) added) x → length new ≡ length old
visited_length old new added more b at x e = as_many old new more (visit b at (state (sets_of old) added) x) e (visit_length b at x (state (sets_of old) added))

pub block_length : (old new : List NameSet) (added more : Bool) (b : PlainBlock) (at : ℕ) (ps : List PlainVar) → state (sets_of new) more ≡ visit_params b at ps (state (sets_of old) added) → length new ≡ length old
block_length old new added more b at ps e = as_many old new more (visit_params b at ps (state (sets_of old) added)) e (params_length b at ps (state (sets_of old) added))

-- Passes

pub param_more : (b : PlainBlock) (at : ℕ) (s : State) (ps : List VarType) (i : ℕ) (p : VarType) → i < length ps → p ≡ get_or ps i p → visit_params b at (plain_vars (drop i ps)) s ≡ visit_params b at (plain_vars (drop (i + 1) ps)) (visit b at s p.name.0)
unfolding visit_params
param_more b at s ps i p within is = ap (λ vs. visit_params b at vs s) (map_from plain_var ps i p within is)

pub param_end : (b : PlainBlock) (at : ℕ) (s : State) (ps : List VarType) (i : ℕ) → length ps ≤ i → visit_params b at (plain_vars (drop i ps)) s ≡ s
unfolding visit_params
param_end b at s ps i past = ap (λ vs. visit_params b at (plain_vars vs) s) (drop_all i ps past)

pub ruleset param_rules = (param_more, param_end, visited_length)

pub block_more : (s : State) (bs : List Block) (i : ℕ) (b : Block) → i < length bs → b ≡ get_or bs i b → visit_all i (plain_blocks (drop i bs)) s ≡ visit_all (i + 1) (plain_blocks (drop (i + 1) bs)) (visit_params (plain_block b) i (plain_block b).params s)
unfolding visit_all
block_more s bs i b within is = ap (λ bs. visit_all i bs s) (map_from plain_block bs i b within is) ∙ (let e : suc i ≡ i + 1 = omega arith in ap (λ n. visit_all n (plain_blocks (drop (i + 1) bs)) (visit_params (plain_block b) i (plain_block b).params s)) e)

pub block_end : (s : State) (bs : List Block) (i : ℕ) → length bs ≤ i → visit_all i (plain_blocks (drop i bs)) s ≡ s
unfolding visit_all
block_end s bs i past = ap (λ bs. visit_all i (plain_blocks bs) s) (drop_all i bs past)

pub ruleset pass_rules = (block_more, block_end, block_length)

-- Where it begins

pub none_begin : (sets : List NameSet) → sets ≡ [] → sets_of sets ≡ none_for 0
unfolding none_for
none_begin sets e = ap sets_of e

pub none_more : (n : ℕ) (set : NameSet) (sets : List NameSet) → names_in set ≡ [] → sets_of sets ≡ none_for n → sets_of (sets ++ set ∷ []) ≡ none_for (n + 1)
unfolding none_for
none_more n set sets e f = map-append names_in sets (set ∷ []) ∙ (λ j. f j ++ e j ∷ []) ∙ last n
  where
    last : (n : ℕ) → none_for n ++ [] ∷ [] ≡ none_for (n + 1)
    last zero = refl
    last (suc n) = let e : suc (n + 1) ≡ suc n + 1 = omega arith in ap (λ ls. [] ∷ ls) (last n) ∙ ap none_for e
