-- Entries in two lists, one behind the other: what is found there, and what a write makes of them.
use Rattle.std.proofs.Common.{◌≡◌, ◌∙◌, ℕ, zero, suc, ◌+◌, Bool, true, false, cond, not, nat_lt, List, [], ◌∷◌, ◌++◌, length, position, get_or, slice_set, is_some, true≢false, arith, Option, Some, None, refl, sym, ap, subst, if◌then◌else◌, Result, Ok, Err, OnOk}
use Rattle.std.specs.Prelude.{OnErr, IfSome, IfNone}
use Rattle.std.specs.Cmp.{IsEquivalence, eq_by_cmp_equiv}
use Rattle.std.specs.List.{IsDistinct, list_any, position_or_len}
use Rattle.std.specs.Map.{lookup, keys_of}
use Rattle.std.proofs.lemmas.List.{append_assoc}
use Rattle.std.proofs.lemmas.Map.Keys.{IsDistinct-push}
use Rattle.std_collections.proofs.HashLookup.{IsFirst, IsAbsent}
use Rattle.indexmap.specs.IndexMap.{insert_entry, set_value_at}
use Rattle.indexmap.proofs.MapLemmas.{Found-position, Missing-position, insert_entry-first}
use Rattle.indexmap.proofs.SetLemmas.{keys_insert_entry}
use Rattle.sf_value.specs.Keys.{key_of}
use Rattle.sf_value.specs.declared.value.Ref.{Ref}
use Rattle.sf_value.proofs.Maps.{key_total, ref_ties}
use Rattle.few_entities.specs.Entries.{is_ref, refs_of}

-- Places

module _ {X : Type 0} (t : Ref → Bool) where
  or_len_keys : (es : List (Ref × X)) → position_or_len t (keys_of es) ≡ position_or_len (λ (e : Ref × X). t e.0) es
  or_len_keys [] = refl
  or_len_keys (e ∷ es) = ap (λ n. cond (not (t e.0)) (1 + n) 0) (or_len_keys es)

  length_keys : (es : List (Ref × X)) → length (keys_of es) ≡ length es
  length_keys [] = refl
  length_keys (e ∷ es) = ap suc (length_keys es)

  by_keys : (es : List (Ref × X)) → position t (keys_of es) ≡ position (λ (e : Ref × X). t e.0) es
  by_keys es = λ i. cond (nat_lt (or_len_keys es i) (length_keys es i)) (Some (or_len_keys es i)) None

  pub is_first : (es : List (Ref × X)) (i : ℕ) → Some i ≡ position (λ (e : Ref × X). t e.0) es → IsFirst t es i
  is_first es i is = (Found-position t es i (by_keys es ∙ sym is)).first

  pub is_absent : (es : List (Ref × X)) → None ≡ position (λ (e : Ref × X). t e.0) es → IsAbsent t es
  is_absent es is = (Missing-position t es (by_keys es ∙ sym is)).absent

  lookup_few : (few more : List (Ref × X)) (i : ℕ) → IsFirst t few i → lookup t (few ++ more) ≡ lookup t few
  lookup_few [] more i h = absurd h
  lookup_few (e ∷ few) more zero h = ap (λ b. cond b (Some e.1) (lookup t (few ++ more))) h ∙ sym (ap (λ b. cond b (Some e.1) (lookup t few)) h)
  lookup_few (e ∷ few) more (suc i) h = ap (cond (t e.0) (Some e.1)) (lookup_few few more i h.1)

  pub lookup_more : (few more : List (Ref × X)) → IsAbsent t few → lookup t (few ++ more) ≡ lookup t more
  lookup_more [] more h = refl
  lookup_more (e ∷ few) more h = ap (λ b. cond b (Some e.1) (lookup t (few ++ more))) h.0 ∙ lookup_more few more h.1

  value_first : (es : List (Ref × X)) (i : ℕ) (e : Ref × X) → IsFirst t es i → e ≡ get_or es i e → lookup t es ≡ Some e.1
  value_first [] i e h at = absurd h
  value_first (d ∷ es) zero e h at = ap (λ b. cond b (Some d.1) (lookup t es)) h ∙ sym (ap (λ y. Some y.1) at)
  value_first (d ∷ es) (suc i) e h at = ap (λ b. cond b (Some d.1) (lookup t es)) h.0 ∙ value_first es i e h.1 at

  -- the value at the place where an entity is found
  pub found_few : (few more : List (Ref × X)) (i : ℕ) (e : Ref × X) → Some i ≡ position (λ (x : Ref × X). t x.0) few → e ≡ get_or few i e → Some e.1 ≡ lookup t (few ++ more)
  found_few few more i e is at = sym (lookup_few few more i (is_first few i is) ∙ value_first few i e (is_first few i is) at)

-- Writes

set_first : {X : Type 0} (t : Ref → Bool) (es : List (Ref × X)) (i : ℕ) (e : Ref × X) (v : X) → IsFirst t es i → e ≡ get_or es i e → slice_set es i (e.0, v) ≡ set_value_at es i v
set_first t [] i e v h at = absurd h
set_first t (d ∷ es) zero e v h at = ap (λ y. (y.0, v) ∷ es) at
set_first t (d ∷ es) (suc i) e v h at = ap (λ l. d ∷ l) (set_first t es i e v h.1 at)

module _ {X : Type 0} (at : Ref) (v : X) where
  insert_few : (few more : List (Ref × X)) (i : ℕ) → IsFirst (is_ref at) few i → insert_entry is_ref (few ++ more) at v ≡ set_value_at few i v ++ more
  insert_few [] more i h = absurd h
  insert_few (e ∷ few) more zero h = ap (λ b. if b then (e.0, v) ∷ (few ++ more) else e ∷ insert_entry is_ref (few ++ more) at v) h
  insert_few (e ∷ few) more (suc i) h =
      ap (λ b. if b then (e.0, v) ∷ (few ++ more) else e ∷ insert_entry is_ref (few ++ more) at v) h.0 ∙ ap (λ l. e ∷ l) (insert_few few more i h.1)

  -- a value is put in the list
  pub set_few : (few more : List (Ref × X)) (i : ℕ) (e : Ref × X) → Some i ≡ position (λ (x : Ref × X). is_ref at x.0) few → e ≡ get_or few i e
      → slice_set few i (e.0, v) ++ more ≡ insert_entry is_ref (few ++ more) at v
  set_few few more i e is got =
      let first = is_first (is_ref at) few i is in
      ap (λ l. l ++ more) (set_first (is_ref at) few i e v first got) ∙ sym (insert_few few more i first)

  -- and behind it
  pub insert_more : (few more : List (Ref × X)) → IsAbsent (is_ref at) few → few ++ insert_entry is_ref more at v ≡ insert_entry is_ref (few ++ more) at v
  insert_more [] more h = refl
  insert_more (e ∷ few) more h =
      ap (λ l. e ∷ l) (insert_more few more h.1) ∙ sym (ap (λ b. if b then (e.0, v) ∷ (few ++ more) else e ∷ insert_entry is_ref (few ++ more) at v) h.0)

  -- a new entity joins the list
  pub push_few : (few more : List (Ref × X)) → IsAbsent (is_ref at) few → more ≡ [] → (few ++ (at, v) ∷ []) ++ more ≡ insert_entry is_ref (few ++ more) at v
  push_few few more h none = append_assoc few ((at, v) ∷ []) more ∙ ap (λ l. few ++ (at, v) ∷ l) none ∙ ap (λ l. few ++ insert_entry is_ref l at v) (sym none) ∙ insert_more few more h

-- No entity stands twice

ref_equiv : IsEquivalence is_ref
ref_equiv = record {
  refl = λ a. ref_ties a a ∙ (eq_by_cmp_equiv key_total).refl (key_of a);
  symm = λ a b. ref_ties a b ∙ (eq_by_cmp_equiv key_total).symm (key_of a) (key_of b) ∙ sym (ref_ties b a);
  congr = λ a b c e. ref_ties a c ∙ (eq_by_cmp_equiv key_total).congr (key_of a) (key_of b) (key_of c) (sym (ref_ties a b) ∙ e) ∙ sym (ref_ties b c);
}

pub distinct_after : {X : Type 0} (es : List (Ref × X)) (at : Ref) (v : X) → IsDistinct is_ref (refs_of es) → IsDistinct is_ref (refs_of (insert_entry is_ref es at v))
distinct_after es at v distinct = subst (IsDistinct is_ref) (sym (keys_insert_entry is_ref es at v)) (by (list_any (is_ref at) (refs_of es)) refl)
  where
    by : (b : Bool) → list_any (is_ref at) (refs_of es) ≡ b → IsDistinct is_ref (if b then refs_of es else (refs_of es ++ at ∷ []))
    by true h = distinct
    by false h = IsDistinct-push ref_equiv (refs_of es) at distinct h

pub stays_distinct : {X : Type 0} (es more : List (Ref × X)) (at : Ref) (v : X) → more ≡ insert_entry is_ref es at v → IsDistinct is_ref (refs_of es) → IsDistinct is_ref (refs_of more)
stays_distinct es more at v is distinct = subst (λ l. IsDistinct is_ref (refs_of l)) (sym is) (distinct_after es at v distinct)

pub either_distinct : {X A E : Type 0} (r : Result A E) (es more : List (Ref × X)) (at : Ref) (v : X) → OnOk r (more ≡ insert_entry is_ref es at v) → OnErr r (more ≡ es) → IsDistinct is_ref (refs_of es) → IsDistinct is_ref (refs_of more)
either_distinct (Ok x) es more at v is same distinct = stays_distinct es more at v is distinct
either_distinct (Err e) es more at v is same distinct = subst (λ l. IsDistinct is_ref (refs_of l)) (sym same) distinct

pub none_left : {X : Type 0} (l : List X) → length l ≡ 0 → l ≡ []
none_left [] h = refl
none_left (x ∷ l) h = absurd (omega arith)

-- A value is put at a place of the second list

module _ {X : Type 0} (at : Ref) (v : X) (few more : List (Ref × X)) (i : ℕ) where
  pub set_more : IsAbsent (is_ref at) few → position (is_ref at) (keys_of more) ≡ Some i → few ++ set_value_at more i v ≡ insert_entry is_ref (few ++ more) at v
  set_more h is = ap (λ l. few ++ l) (sym (insert_entry-first is_ref at v more i (Found-position (is_ref at) more i is).first)) ∙ insert_more at v few more h

pub none_by : {A B : Type 0} (r : Option A) (o : Option B) → is_some r ≡ is_some o → r ≡ None → None ≡ o
none_by r None same is = refl
none_by r (Some x) same is = absurd (true≢false (sym same ∙ ap is_some is))

-- A value that was put twice counts as it was put last

module _ {X : Type 0} (at : Ref) (first last : X) where
  put_twice : (es : List (Ref × X)) → insert_entry is_ref (insert_entry is_ref es at first) at last ≡ insert_entry is_ref es at last
  put_twice [] = ap (λ b. if b then (at, last) ∷ [] else (at, first) ∷ (at, last) ∷ []) (ref_equiv.refl at)
  put_twice (e ∷ es) = by (is_ref at e.0) refl (put_twice es)
    where
      by : (b : Bool) → is_ref at e.0 ≡ b → insert_entry is_ref (insert_entry is_ref es at first) at last ≡ insert_entry is_ref es at last
          → insert_entry is_ref (if b then (e.0, first) ∷ es else e ∷ insert_entry is_ref es at first) at last ≡ (if b then (e.0, last) ∷ es else e ∷ insert_entry is_ref es at last)
      by true h more = ap (λ b. if b then (e.0, last) ∷ es else (e.0, first) ∷ insert_entry is_ref es at last) h
      by false h more = ap (λ b. if b then (e.0, last) ∷ insert_entry is_ref es at first else e ∷ insert_entry is_ref (insert_entry is_ref es at first) at last) h ∙ ap (λ l. e ∷ l) more

  -- a value is taken out, and one is put back
  pub put_back : (r : Option X) (es left : List (Ref × X)) → IfSome r (λ _. left ≡ insert_entry is_ref es at first) → IfNone r (left ≡ es) → insert_entry is_ref left at last ≡ insert_entry is_ref es at last
  put_back None es left some none = ap (λ l. insert_entry is_ref l at last) none
  put_back (Some x) es left some none = ap (λ l. insert_entry is_ref l at last) some ∙ put_twice es

  lookup_put : (es : List (Ref × X)) → lookup (is_ref at) (insert_entry is_ref es at first) ≡ Some first
  lookup_put [] = ap (λ b. cond b (Some first) None) (ref_equiv.refl at)
  lookup_put (e ∷ es) = by (is_ref at e.0) refl (lookup_put es)
    where
      by : (b : Bool) → is_ref at e.0 ≡ b → lookup (is_ref at) (insert_entry is_ref es at first) ≡ Some first
          → lookup (is_ref at) (if b then (e.0, first) ∷ es else e ∷ insert_entry is_ref es at first) ≡ Some first
      by true h more = ap (λ b. cond b (Some first) (lookup (is_ref at) es)) h
      by false h more = ap (λ b. cond b (Some e.1) (lookup (is_ref at) (insert_entry is_ref es at first))) h ∙ more

  -- the same, where it is put back in its place
  pub put_in_place : (r : Option X) (es left more : List (Ref × X)) → left ≡ insert_entry is_ref es at first → r ≡ lookup (is_ref at) left → IfSome r (λ _. more ≡ insert_entry is_ref left at last)
      → more ≡ insert_entry is_ref es at last
  put_in_place None es left more taken is put = absurd (true≢false (sym (ap is_some (is ∙ ap (lookup (is_ref at)) taken ∙ lookup_put es))))
  put_in_place (Some x) es left more taken is put = put ∙ ap (λ l. insert_entry is_ref l at last) taken ∙ put_twice es
