-- Frames and what they keep: the last frame, those that stay, and names that are kept.
use Rattle.std.proofs.Common.{Option, ◌≡◌, ◌<◌, ◌≤◌, ◌+◌, ℕ, zero, suc, arith, Bool, true, false, not, ◌||◌, ◌&&◌, ◌-◌, true≢false, Some, None, List, [], ◌∷◌, ◌++◌, length, take, drop, get_or, if◌then◌else◌, refl, sym, ap, ◌∙◌, add-one, drop-cons}
use Rattle.std.specs.Prelude.{option_map, ◌==◌, slice_get, nat_eq}
use Rattle.std.specs.List.{list_any, flat_map}
use Rattle.std.proofs.lemmas.Bool.{eqb-true}
use Rattle.std.proofs.lemmas.List.{append-nil, drop_all}
use Rattle.std.proofs.lemmas.List.Folds.{list_any-append}
use Rattle.std.proofs.lemmas.Map.Keys.{any_passes_from_place}
use Rattle.std.proofs.lemmas.Map.Views.{any-filter_same}
use Rattle.std.proofs.lemmas.Option.{same_Some, none-some}
use Rattle.sf_value.specs.declared.Outcome.{Outcome}
use Rattle.block_code.specs.declared.event.EventKind.TheVariants as kind
use Rattle.block_code.specs.declared.event.Frame.{Frame}
use Rattle.block_code.specs.declared.block.Catch.{Catch}
use Rattle.block_code.specs.declared.vars.VarType.{VarType}
use Rattle.block_code.specs.PlainVars.{PlainVar, plain_vars}
use Rattle.block_code.specs.PlainBlocks.{PlainCatch, PlainBlock, plain_catch, plain_catches}
use Rattle.block_code.specs.EventsFit.{Awaits, catch_of, params_if_there, kept_params}
use Rattle.block_runs.specs.EventStep.{behind_it, up_to, Lasts, one_before, lasts, target_of}
use Rattle.event_step.specs.Frames.{is_named}

-- The last frame

pub split_last : {A : Type 0} (xs : List A) (n : ℕ) (x : A) → length xs ≡ suc n → slice_get xs n ≡ Some x → xs ≡ take n xs ++ x ∷ []
split_last [] n x long at = absurd (none-some x at)
split_last (y ∷ []) zero x long at = ap (λ z. z ∷ []) (same_Some _ _ at)
split_last (y ∷ []) (suc n) x long at = absurd (none-some x at)
split_last (y ∷ z ∷ xs) zero x long at = absurd (omega (arith, long))
split_last (y ∷ z ∷ xs) (suc n) x long at = ap (λ l. y ∷ l) (split_last (z ∷ xs) n x (omega (arith, long)) at)

pub lasts_behind : (fs : List Frame) (x : Frame) → lasts (fs ++ x ∷ []) ≡ Some (record { before = fs; last = x })
unfolding lasts
lasts_behind [] x = refl
lasts_behind (f ∷ fs) x = ap (one_before f) (lasts_behind fs x)

module _ (passes : Frame → Bool) where
  behind_more : (f : Frame) (fs : List Frame) (x : Frame) (b : Bool) → behind_it f (fs ++ x ∷ []) b ≡ f ∷ (fs ++ x ∷ [])
  behind_more f [] x true = refl
  behind_more f [] x false = refl
  behind_more f (g ∷ fs) x true = refl
  behind_more f (g ∷ fs) x false = refl

  last_passes : (fs : List Frame) (x : Frame) → passes x ≡ true → up_to passes (fs ++ x ∷ []) ≡ fs ++ x ∷ []
  unfolding up_to
  last_passes [] x is = ap (behind_it x []) is
  last_passes (f ∷ fs) x is = ap (λ l. behind_it f l (passes f)) (last_passes fs x is) ∙ behind_more f fs x (passes f)

  last_drops : (fs : List Frame) (x : Frame) → passes x ≡ false → up_to passes (fs ++ x ∷ []) ≡ up_to passes fs
  unfolding up_to
  last_drops [] x is = ap (behind_it x []) is
  last_drops (f ∷ fs) x is = ap (λ l. behind_it f l (passes f)) (last_drops fs x is)

-- a list without its last element
module _ (fs rest : List Frame) (at : ℕ) (x : Frame) (long : length fs ≡ suc at) (is : slice_get fs at ≡ Some x) where
  whole : fs ≡ take at fs ++ x ∷ []
  whole = split_last fs at x long is

  pub stays : (passes : Frame → Bool) → passes x ≡ true → fs ≡ up_to passes fs
  stays passes p = whole ∙ sym (last_passes passes (take at fs) x p) ∙ ap (up_to passes) (sym whole)

  module _ (removed : rest ≡ take at fs ++ drop (at + 1) fs) where
    others : rest ≡ take at fs
    others = let none : drop (at + 1) fs ≡ [] = drop_all (at + 1) fs (omega (arith, long)) in removed ∙ ap (λ l. take at fs ++ l) none ∙ append-nil (take at fs)

    pub popped : lasts fs ≡ Some (record { before = rest; last = x })
    popped = ap lasts whole ∙ lasts_behind (take at fs) x ∙ (λ i. Some (record { before = sym others i; last = x }))

    pub drops : (passes : Frame → Bool) → passes x ≡ false → up_to passes rest ≡ up_to passes fs
    drops passes p = ap (up_to passes) others ∙ sym (last_drops passes (take at fs) x p) ∙ ap (up_to passes) (sym whole)

-- a list that isn't empty has a last place
pub not_empty : (fs : List Frame) (b : Bool) (at : ℕ) → b ≡ false → (fs ≡ [] → b ≡ true) → at ≡ length fs - 1 → length fs ≡ suc at
not_empty [] b at is empty place = absurd (true≢false (sym (empty refl) ∙ is))
not_empty (f ∷ fs) b at is empty place = omega (arith, place)

pub last_there : (fs : List Frame) (at : ℕ) → length fs ≡ suc at → (x : Frame) × (slice_get fs at ≡ Some x)
last_there [] at long = absurd (omega (arith, long))
last_there (f ∷ fs) zero long = (f, refl)
last_there (f ∷ fs) (suc at) long = last_there fs at (omega (arith, long))

pub none_waits : (fs : List Frame) → length fs ≡ 0 → lasts fs ≡ None
unfolding lasts
none_waits [] none = refl
none_waits (f ∷ fs) none = absurd (omega (arith, none))

pub none_stays : (passes : Frame → Bool) (fs : List Frame) → fs ≡ [] → fs ≡ up_to passes fs
unfolding up_to
none_stays passes fs none = none ∙ ap (up_to passes) (sym none)

-- the entity of the last frame
pub no_entity_waits : (fs : List Frame) → length fs ≡ 0 → None ≡ option_map (λ (l : Lasts). l.last.at) (lasts fs)
no_entity_waits fs none = ap (option_map (λ (l : Lasts). l.last.at)) (sym (none_waits fs none))

pub entity_waits : (fs : List Frame) (at : ℕ) (x : Frame) → length fs ≡ suc at → Some x ≡ slice_get fs at → Some x.at ≡ option_map (λ (l : Lasts). l.last.at) (lasts fs)
entity_waits fs at x long is = ap (option_map (λ (l : Lasts). l.last.at)) (sym (popped fs (take at fs ++ drop (at + 1) fs) at x long (sym is) refl))

pub entity_is_there : (fs : List Frame) (at : ℕ) → length fs ≡ suc at → None ≡ slice_get fs at → ⊥
entity_is_there fs at long is = let x : (x : Frame) × (slice_get fs at ≡ Some x) = last_there fs at long in none-some x.0 (is ∙ x.1)

pub resumes_entity : (o : Outcome) (l : Option Lasts) → option_map (λ (l : Lasts). l.last.at) l ≡ target_of (kind.Resume o) l
resumes_entity o None = refl
resumes_entity o (Some l) = refl

-- Which names are kept

pub name_among : (ps : List VarType) (name : ℕ) → list_any (λ (p : PlainVar). p.name == name) (plain_vars ps) ≡ list_any (λ (p : VarType). p.name.0 == name) ps
name_among [] name = refl
name_among (p ∷ ps) name = ap (λ t. (p.name.0 == name) || t) (name_among ps name)

-- one of them that is at a place
pub named_there : (ps : List VarType) (place name : ℕ) → is_named name (slice_get ps place) ≡ true → list_any (λ (p : VarType). p.name.0 == name) ps ≡ true
named_there ps place name h = by (slice_get ps place) refl h
  where
    by : (o : Option VarType) → slice_get ps place ≡ o → is_named name o ≡ true → list_any (λ (p : VarType). p.name.0 == name) ps ≡ true
    by None is h = absurd (true≢false (sym h))
    by (Some p) is h = any_passes_from_place (λ (p : VarType). p.name.0 == name) ps place p is h

module _ (name : ℕ) where
  abbrev named : PlainVar → Bool
  named p = p.name == name

  pub kept_name : (blocks : List PlainBlock) (b : PlainBlock) (w : Awaits)
      → list_any named (kept_params blocks b w) ≡ ((not (name == w.into) && list_any named (params_if_there (slice_get blocks w.after))) || list_any named (flat_map (λ (c : PlainCatch). params_if_there (slice_get blocks c.to)) b.catches))
  kept_name blocks b w =
      list_any-append named _ _
      ∙ ap (λ t. t || list_any named (flat_map (λ (c : PlainCatch). params_if_there (slice_get blocks c.to)) b.catches))
      (any-filter_same named (λ (p : PlainVar). not (p.name == w.into)) (not (name == w.into)) (λ p is. ap (λ n. not (n == w.into)) (eqb-true p.name name is)) (params_if_there (slice_get blocks w.after)))

catches_from : (cs : List Catch) (i : ℕ) (c : Catch) → i < length cs → c ≡ get_or cs i c → plain_catches (drop i cs) ≡ plain_catch c ∷ plain_catches (drop (i + 1) cs)
catches_from cs i c lt is =
    let cut : drop i cs ≡ get_or cs i c ∷ drop (i + 1) cs = rw (add-one, drop-cons cs i c) in
    ap plain_catches cut ∙ ap (λ x. plain_catch x ∷ plain_catches (drop (i + 1) cs)) (sym is)

catches_end : (cs : List Catch) (i : ℕ) → length cs ≤ i → plain_catches (drop i cs) ≡ []
catches_end cs i le = let none : drop i cs ≡ [] = drop_all i cs le in ap plain_catches none

-- the first catch of those that are left
pub catch_next : (cs : List Catch) (i kind : ℕ) (c : Catch) (b : Bool) → i < length cs → c ≡ get_or cs i c → b ≡ list_any (nat_eq kind) c.kinds → catch_of (plain_catches (drop i cs)) kind ≡ (if b then Some c.to else catch_of (plain_catches (drop (i + 1) cs)) kind)
catch_next cs i kind c b lt is names = ap (λ l. catch_of l kind) (catches_from cs i c lt is) ∙ ap (λ b. if b then Some c.to else catch_of (plain_catches (drop (i + 1) cs)) kind) (sym names)

pub catch_none : (cs : List Catch) (i kind : ℕ) → length cs ≤ i → catch_of (plain_catches (drop i cs)) kind ≡ None
catch_none cs i kind le = ap (λ l. catch_of l kind) (catches_end cs i le)

module _ (test : PlainVar → Bool) (of : PlainCatch → List PlainVar) where
  pub param_next : (cs : List Catch) (i : ℕ) (c : Catch) → i < length cs → c ≡ get_or cs i c → list_any test (flat_map of (plain_catches (drop i cs))) ≡ (list_any test (of (plain_catch c)) || list_any test (flat_map of (plain_catches (drop (i + 1) cs))))
  param_next cs i c lt is = ap (λ l. list_any test (flat_map of l)) (catches_from cs i c lt is) ∙ list_any-append test (of (plain_catch c)) (flat_map of (plain_catches (drop (i + 1) cs)))

  pub param_none : (cs : List Catch) (i : ℕ) → length cs ≤ i → list_any test (flat_map of (plain_catches (drop i cs))) ≡ false
  param_none cs i le = ap (λ l. list_any test (flat_map of l)) (catches_end cs i le)
