-- Parameters that are kept, one by one.
use Rattle.std.proofs.Common.{◌≡◌, ◌<◌, ◌≤◌, ◌+◌, ℕ, Bool, true, false, cond, List, [], ◌∷◌, ◌++◌, drop, get_or, length, append-nil, append_assoc, sym, ap, ◌∙◌}
use Rattle.std.proofs.lemmas.List.{drop_all, map-append}
use Rattle.py_tree.proofs.ListWalks.{map_from}
use Rattle.block_code.specs.declared.vars.VarType.{VarType}
use Rattle.block_code.specs.PlainVars.{PlainVar, plain_var, plain_vars}
use Rattle.live_vars.specs.Saved.{has}
use Rattle.live_vars.specs.Trim.{kept_of}

module _ (names : List ℕ) (old : List PlainVar) (xs : List VarType) (i : ℕ) where
  abbrev later : List PlainVar
  later = kept_of names (plain_vars (drop (i + 1) xs))

  by_test : (x : VarType) (b : Bool) → i < length xs → x ≡ get_or xs i x → has names x.name.0 ≡ b → old ++ kept_of names (plain_vars (drop i xs)) ≡ old ++ cond b (plain_var x ∷ later) later
  unfolding kept_of
  by_test x b within is e = ap (λ vs. old ++ kept_of names vs) (map_from plain_var xs i x within is) ∙ (λ j. old ++ cond (e j) (plain_var x ∷ later) later)

  pub left_out : (x : VarType) → i < length xs → x ≡ get_or xs i x → has names x.name.0 ≡ false → old ++ kept_of names (plain_vars (drop i xs)) ≡ old ++ kept_of names (plain_vars (drop (i + 1) xs))
  left_out x within is e = by_test x false within is e

  pub kept_end : length xs ≤ i → old ++ kept_of names (plain_vars (drop i xs)) ≡ old
  unfolding kept_of
  kept_end past = ap (λ ys. old ++ kept_of names (plain_vars ys)) (drop_all i xs past) ∙ append-nil old

pub taken : (names : List ℕ) (made : List VarType) (copy : VarType) (xs : List VarType) (i : ℕ) (x : VarType) → i < length xs → x ≡ get_or xs i x → has names x.name.0 ≡ true → plain_var copy ≡ plain_var x
    → plain_vars made ++ kept_of names (plain_vars (drop i xs)) ≡ plain_vars (made ++ copy ∷ []) ++ kept_of names (plain_vars (drop (i + 1) xs))
taken names made copy xs i x within is e same =
    by_test names (plain_vars made) xs i x true within is e
    ∙ sym (append_assoc (plain_vars made) (plain_var x ∷ []) (kept_of names (plain_vars (drop (i + 1) xs))))
    ∙ ap (λ vs. vs ++ kept_of names (plain_vars (drop (i + 1) xs))) (ap (λ v. plain_vars made ++ v ∷ []) (sym same) ∙ sym (map-append plain_var made (copy ∷ [])))

pub ruleset kept_rules = (taken, left_out, kept_end)
