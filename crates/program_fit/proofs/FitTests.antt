-- When a test tells that a value fits a type, or that values do.
use Rattle.std.proofs.Common.{◌≡◌, ◌<◌, ◌+◌, ◌↔◌, ◌⊎◌, inl, inr, ℕ, suc, Bool as Truth, true, false, IsTrue, List as Items, [], ◌∷◌, ◌++◌, length, take, get_or, map, Some, refl, sym, ap, ◌∙◌, subst, true≢false}
use Rattle.std.specs.Prelude.{slice_get, nat_eq}
use Rattle.std.specs.Option.{option_map}
use Rattle.std.proofs.lemmas.Bool.{eq-eqb, eqb-true}
use Rattle.std.proofs.lemmas.List.{take_more, length-map, map-append}
use Rattle.std.proofs.lemmas.Option.{same_Some, slice_get-map, slice_get_read}
use Rattle.py_tree.specs.PlainTypes.{PlainTy, TList, TOptional, TEntity}
use Rattle.py_tree.specs.ClassRules.{PlainTable}
use Rattle.sf_value.specs.declared.value.Ref.{Ref}
use Rattle.sf_value.specs.declared.value.Value.{Value}
use Rattle.sf_value.specs.declared.value.Value.TheVariants as value
use Rattle.program_meaning.specs.Operations.{items_of}
use Rattle.program_meaning.specs.Fits.{HasTable, Fits, list, some, entity, AllFit, empty, more, EachFits, no_value, one_more}
use Rattle.program_meaning.proofs.FitsLaws.{as_list, as_optional, as_entity, fit_behind, fit_at, each_behind, each_at}
use Rattle.program_meaning.proofs.ValuesFit.{items_are}

-- the answer of a test of what holds, and of what doesn't
pub holds : {P : Type 0} → P → IsTrue true ↔ P
holds p = (λ _. p, λ _. refl)

pub fails : {P : Type 0} → (P → ⊥) → IsTrue false ↔ P
fails never = (λ e. absurd (true≢false (sym e)), λ p. absurd (never p))

-- a test that says no
pub refuses : {P : Type 0} (b : Truth) → b ≡ false → IsTrue b ↔ P → P → ⊥
refuses b off h p = true≢false (sym (h.1 p) ∙ off)

same_list : (vs ws : Items Value) → value.List vs ≡ value.List ws → vs ≡ ws
same_list vs ws e = sym (items_are [] vs) ∙ ap items_of e ∙ items_are [] ws

same_entity : (a b : Ref) → value.Entity a ≡ value.Entity b → a ≡ b
same_entity a b e = cc

module _ (tables : Items PlainTable) where
  -- the same question in other words
  pub moved : (b : Truth) (s t : PlainTy) (v w : Value) → s ≡ t → v ≡ w → IsTrue b ↔ Fits tables t w → IsTrue b ↔ Fits tables s v
  moved b s t v w p q h = subst (λ x. IsTrue b ↔ Fits tables s x) (sym q) (subst (λ u. IsTrue b ↔ Fits tables u w) (sym p) h)

  -- a list fits where each element does
  pub list_test : (b : Truth) (t : PlainTy) (vs : Items Value) → IsTrue b ↔ AllFit tables t vs → IsTrue b ↔ Fits tables (TList t) (value.List vs)
  list_test b t vs h = (λ e. list (h.0 e), λ fit. back (as_list tables t (value.List vs) fit))
    where
      back : (ws : Items Value) × (value.List vs ≡ value.List ws) × AllFit tables t ws → IsTrue b
      back a = h.1 (subst (λ us. AllFit tables t us) (sym (same_list vs a.0 a.1)) a.2)

  -- a value that isn't None fits what an Optional holds
  pub inner_test : (b : Truth) (t : PlainTy) (v : Value) → (v ≡ value.Nil → ⊥) → IsTrue b ↔ Fits tables t v → IsTrue b ↔ Fits tables (TOptional t) v
  inner_test b t v other h = (λ e. some (h.0 e), λ fit. back (as_optional tables t v fit))
    where
      back : (v ≡ value.Nil) ⊎ Fits tables t v → IsTrue b
      back (inl e) = absurd (other e)
      back (inr f) = h.1 f

  -- what an entity that fits a class's type is
  entity_back : (class : ℕ) (at : Ref) → Fits tables (TEntity class) (value.Entity at) → (t : PlainTable) × HasTable tables at.class t × (t.name ≡ class)
  entity_back class at fit = of (as_entity tables class (value.Entity at) fit)
    where
      of : (to : Ref) × (t : PlainTable) × (value.Entity at ≡ value.Entity to) × HasTable tables to.class t × (t.name ≡ class) → (t : PlainTable) × HasTable tables at.class t × (t.name ≡ class)
      of a = (a.1, subst (λ (r : Ref). HasTable tables r.class a.1) (sym (same_entity at a.0 a.2)) a.3, a.4)

  -- an entity fits the type of the class that its number names
  pub entity_test : (class : ℕ) (at : Ref) (t : PlainTable) → HasTable tables at.class t → IsTrue (nat_eq t.name class) ↔ Fits tables (TEntity class) (value.Entity at)
  entity_test class at t has = (λ e. subst (λ n. Fits tables (TEntity n) (value.Entity at)) (eqb-true t.name class e) (entity at has), λ fit. back (entity_back class at fit))
    where
      back : (u : PlainTable) × HasTable tables at.class u × (u.name ≡ class) → IsTrue (nat_eq t.name class)
      back a = eq-eqb t.name class (ap (λ (u : PlainTable). u.name) (same_Some _ _ (sym has ∙ a.1)) ∙ a.2)

  -- Walks over values of one type

  module _ (t : PlainTy) (vs : Items Value) (i : ℕ) (v : Value) (within : i < length vs) (is : v ≡ get_or vs i v) where
    -- one more that fits
    pub all_more : AllFit tables t (take i vs) → Fits tables t v → AllFit tables t (take (i + 1) vs)
    all_more before fit = subst (λ us. AllFit tables t us) (sym (take_more vs i v within ∙ ap (λ u. take i vs ++ u ∷ []) (sym is))) (fit_behind tables t (take i vs) (v ∷ []) before (more fit empty))

    -- one that doesn't fit
    pub all_stop : (Fits tables t v → ⊥) → AllFit tables t vs → ⊥
    all_stop never fit = never (fit_at tables t vs i v fit (slice_get_read vs (length vs) i v refl within is))

  -- Walks over values, each of a type of its own

  -- values that fit are as many as their types
  as_many : (ts : Items PlainTy) (vs : Items Value) → EachFits tables ts vs → length ts ≡ length vs
  as_many [] [] no_value = refl
  as_many [] (v ∷ vs) x = elim x [ ]
  as_many (t ∷ ts) [] x = elim x [ ]
  as_many (t ∷ ts) (v ∷ vs) (one_more f fs) = ap (λ n. suc n) (as_many ts vs fs)

  module _ {A B : Type 0} (plain : A → B) (ty : B → PlainTy) (xs : Items A) (vs : Items Value) where
    abbrev types : Items A → Items PlainTy
    types ys = map ty (map plain ys)

    pub other_count : (length xs ≡ length vs → ⊥) → EachFits tables (types xs) vs → ⊥
    other_count other fit = other (sym (length-map (map plain xs) ty ∙ length-map xs plain) ∙ as_many (types xs) vs fit)

    module _ (i : ℕ) (x : A) (v : Value) (in_types : i < length xs) (x_is : x ≡ get_or xs i x) (in_values : i < length vs) (v_is : v ≡ get_or vs i v) where
      -- the types and the values so far, with one more of each
      grown : types (take (i + 1) xs) ≡ types (take i xs) ++ ty (plain x) ∷ []
      grown = ap types (take_more xs i x in_types ∙ ap (λ y. take i xs ++ y ∷ []) (sym x_is)) ∙ ap (map ty) (map-append plain (take i xs) (x ∷ [])) ∙ map-append ty (map plain (take i xs)) (plain x ∷ [])

      taken : take (i + 1) vs ≡ take i vs ++ v ∷ []
      taken = take_more vs i v in_values ∙ ap (λ u. take i vs ++ u ∷ []) (sym v_is)

      -- one more that fits its type
      pub each_more : EachFits tables (types (take i xs)) (take i vs) → Fits tables (ty (plain x)) v → EachFits tables (types (take (i + 1) xs)) (take (i + 1) vs)
      each_more before fit = subst (λ ts. EachFits tables ts (take (i + 1) vs)) (sym grown) (subst (λ us. EachFits tables (types (take i xs) ++ ty (plain x) ∷ []) us) (sym taken)
          (each_behind tables (types (take i xs)) (ty (plain x) ∷ []) (take i vs) (v ∷ []) before (one_more fit no_value)))

      type_at : slice_get (types xs) i ≡ Some (ty (plain x))
      type_at = slice_get-map ty (map plain xs) i ∙ ap (option_map ty) (slice_get-map plain xs i ∙ ap (option_map plain) (slice_get_read xs (length xs) i x refl in_types x_is))

      -- one that doesn't fit its type
      pub each_stop : (Fits tables (ty (plain x)) v → ⊥) → EachFits tables (types xs) vs → ⊥
      each_stop never fit = at (each_at tables (types xs) vs i (ty (plain x)) fit type_at)
        where
          at : (u : Value) × (slice_get vs i ≡ Some u) × Fits tables (ty (plain x)) u → ⊥
          at a = never (subst (λ u. Fits tables (ty (plain x)) u) (same_Some _ _ (sym a.1 ∙ slice_get_read vs (length vs) i v refl in_values v_is)) a.2)
