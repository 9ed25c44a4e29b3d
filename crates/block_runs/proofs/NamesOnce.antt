-- A list of locals has each name once, and keeps it so.
use Rattle.std.proofs.Common.{◌≡◌, ℕ, suc, Bool, true, false, cond, not, Option, Some, None, List, [], ◌∷◌, refl, sym, ap, ◌∙◌, subst, true≢false}
use Rattle.std.specs.Prelude.{◌==◌, ◌||◌, position, option_map, filter}
use Rattle.std.specs.List.{list_any}
use Rattle.std.specs.Cmp.Derive.{both_true as both_hold}
use Rattle.std.proofs.lemmas.Bool.{eqb-true, eq-eqb, not-true}
use Rattle.sf_value.specs.declared.value.Value.{Value}
use Rattle.program_meaning.specs.declared.vars.Var.{Var}
use Rattle.program_meaning.specs.World.{is_named, placed, assigned}
use Rattle.program_meaning.proofs.Places.{position_of_more}
use Rattle.program_meaning.proofs.TypedParts.{both_true}
use Rattle.block_code.specs.EventsFit.{each_name_once}

abbrev pub Once : List Var → Type 0
Once vars = each_name_once vars ≡ true

abbrev named_like : Var → Var → Bool
named_like v u = u.name.0 == v.name.0

placed_more : (a : Var) (vars : List Var) (o : Option ℕ) (v : Var) → placed (a ∷ vars) (option_map suc o) v ≡ a ∷ placed vars o v
placed_more a vars None v = refl
placed_more a vars (Some i) v = refl

assigned_more : (a : Var) (vars : List Var) (x : ℕ) (v : Value) → assigned (a ∷ vars) x v ≡ cond (is_named x a) (record { name = record { 0 = x }; value = v } ∷ vars) (a ∷ assigned vars x v)
unfolding assigned
assigned_more a vars x v = ap (λ o. placed (a ∷ vars) o (record { name = record { 0 = x }; value = v })) (position_of_more (is_named x) a vars) ∙ by (is_named x a)
  where
    by : (b : Bool) → placed (a ∷ vars) (cond b (Some 0) (option_map suc (position (is_named x) vars))) (record { name = record { 0 = x }; value = v })
        ≡ cond b (record { name = record { 0 = x }; value = v } ∷ vars) (a ∷ placed vars (position (is_named x) vars) (record { name = record { 0 = x }; value = v }))
    by true = refl
    by false = placed_more a vars (position (is_named x) vars) (record { name = record { 0 = x }; value = v })

-- an assignment adds no name but its own
module _ (y x : ℕ) (v : Value) (other : (x == y) ≡ false) where
  abbrev has : List Var → Bool
  has vars = list_any (λ (u : Var). u.name.0 == y) vars

  other_named : (vars : List Var) → has vars ≡ false → has (assigned vars x v) ≡ false
  unfolding assigned
  other_named [] none = ap (λ b. b || false) other
  other_named (a ∷ vars) none = subst (λ us. has us ≡ false) (sym (assigned_more a vars x v)) (by (is_named x a) (a.name.0 == y) refl none (other_named vars))
    where
      by : (b c : Bool) → (a.name.0 == y) ≡ c → (c || has vars) ≡ false → (has vars ≡ false → has (assigned vars x v) ≡ false) → has (cond b (record { name = record { 0 = x }; value = v } ∷ vars) (a ∷ assigned vars x v)) ≡ false
      by b true e none rest = absurd (true≢false none)
      by true false e none rest = ap (λ b. b || has vars) other ∙ none
      by false false e none rest = ap (λ b. b || has (assigned vars x v)) e ∙ rest none

pub once_stays : (vars : List Var) (x : ℕ) (v : Value) → Once vars → Once (assigned vars x v)
unfolding assigned
once_stays [] x v once = refl
once_stays (a ∷ vars) x v once =
    let p : (not (list_any (named_like a) vars) ≡ true) × Once vars = both_true (not (list_any (named_like a) vars)) (each_name_once vars) once in
    subst Once (sym (assigned_more a vars x v)) (by (is_named x a) refl p.0 p.1 (once_stays vars x v p.1))
  where
    apart : (b : Bool) → (x == a.name.0) ≡ b → is_named x a ≡ false → (x == a.name.0) ≡ false
    apart true e f = absurd (true≢false (sym (eq-eqb a.name.0 x (sym (eqb-true x a.name.0 e))) ∙ f))
    apart false e f = e

    by : (b : Bool) → is_named x a ≡ b → not (list_any (named_like a) vars) ≡ true → Once vars → Once (assigned vars x v) → Once (cond b (record { name = record { 0 = x }; value = v } ∷ vars) (a ∷ assigned vars x v))
    by true e none rest later = both_hold (subst (λ y. not (list_any (λ (u : Var). u.name.0 == y) vars) ≡ true) (eqb-true a.name.0 x e) none) rest
    by false e none rest later =
        both_hold
        (ap not (other_named a.name.0 x v (apart (x == a.name.0) refl e) vars (not-true (list_any (named_like a) vars) none))) later

-- and so does leaving some out
pub once_filtered : (p : Var → Bool) (vars : List Var) → Once vars → Once (filter p vars)
once_filtered p [] once = refl
once_filtered p (a ∷ vars) once =
    let q : (not (list_any (named_like a) vars) ≡ true) × Once vars = both_true (not (list_any (named_like a) vars)) (each_name_once vars) once in
    by (p a) q.0 (once_filtered p vars q.1)
  where
    fewer : (q : Var → Bool) (us : List Var) → not (list_any q us) ≡ true → not (list_any q (filter p us)) ≡ true
    fewer q [] h = h
    fewer q (u ∷ us) h = less (q u) refl (p u) h (fewer q us)
      where
        less : (b : Bool) → q u ≡ b → (c : Bool) → not (b || list_any q us) ≡ true → (not (list_any q us) ≡ true → not (list_any q (filter p us)) ≡ true) → not (list_any q (cond c (u ∷ filter p us) (filter p us))) ≡ true
        less true e c h rest = absurd (true≢false (sym h))
        less false e true h rest = ap (λ d. not (d || list_any q (filter p us))) e ∙ rest h
        less false e false h rest = rest h

    by : (b : Bool) → not (list_any (named_like a) vars) ≡ true → Once (filter p vars) → Once (cond b (a ∷ filter p vars) (filter p vars))
    by true none rest = both_hold (fewer (named_like a) vars none) rest
    by false none rest = rest
