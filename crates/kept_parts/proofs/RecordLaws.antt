-- Records that are put into an empty state one after another.
use Rattle.std.proofs.Common.{◌≡◌, Bool, true, false, cond, not, ◌&&◌, ◌||◌, Option, None, Some, List, [], ◌∷◌, ◌++◌, map as over, refl, sym, ap, ◌∙◌, true≢false}
use Rattle.std.specs.Prelude.{is_some}
use Rattle.std.specs.List.{list_any}
use Rattle.std.specs.Ordering.{eq_by_cmp}
use Rattle.std.specs.FinMap as finite
use Rattle.std.specs.FinMap.{find, from_entries_push, get-from_entries}
use Rattle.std.proofs.lemmas.Bool.{and_parts, or_parts, or_from, not-true, false_from_ne_true}
use Rattle.std.proofs.lemmas.List.{map-append, append_assoc, append-nil}
use Rattle.std.proofs.lemmas.List.Folds.{list_any-append}
use Rattle.std.specs.Cmp.{eq_by_cmp_equiv}
use Rattle.sf_value.specs.Keys.{Key, key_cmp, key_of}
use Rattle.sf_value.specs.declared.value.Value.{Value}
use Rattle.sf_value.specs.declared.value.Ref.{Ref}
use Rattle.sf_value.specs.declared.Held.{Held}
use Rattle.sf_value.proofs.Maps.{ref_eq, ref_ties, key_total, key_exact}
use Rattle.keyed_state.specs.declared.keyed.Keyed.{Keyed}
use Rattle.keyed_state.specs.Works.{with_records, entities_differ}

abbrev entry : Held → Key × List Value
entry h = (key_of h.at, h.fields.fields)

as_entries : (hs : List Held) → with_records finite.empty hs ≡ finite.from_entries (over entry hs)
as_entries [] = refl
as_entries (h ∷ hs) = ap (λ m. finite.insert m (key_of h.at) h.fields.fields) (as_entries hs)

-- an entity has a record exactly where it is among those of the records
find_among : (at : Ref) (hs : List Held) → is_some (find key_cmp (key_of at) (over entry hs)) ≡ list_any (λ x. ref_eq at x.at) hs
find_among at [] = refl
find_among at (h ∷ hs) = by (eq_by_cmp key_cmp (key_of at) (key_of h.at)) (ref_eq at h.at) (ref_ties at h.at) (find_among at hs)
  where
    by : (t b : Bool) → b ≡ t → is_some (find key_cmp (key_of at) (over entry hs)) ≡ list_any (λ x. ref_eq at x.at) hs → is_some (cond t (Some h.fields.fields) (find key_cmp (key_of at) (over entry hs))) ≡ (b || list_any (λ x. ref_eq at x.at) hs)
    by true true same later = refl
    by false false same later = later
    by true false same later = absurd (true≢false (sym same))
    by false true same later = absurd (true≢false same)

pub held_there : (at : Ref) (hs : List Held) → is_some (finite.get (with_records finite.empty hs) (key_of at)) ≡ list_any (λ x. ref_eq at x.at) hs
held_there at hs = ap (λ m. is_some (finite.get m (key_of at))) (as_entries hs) ∙ ap is_some (get-from_entries key_total (over entry hs) (key_of at)) ∙ find_among at hs

pub none_of : {A : Type 0} (o : Option A) → is_some o ≡ false → o ≡ None
none_of None h = refl
none_of (Some x) h = absurd (true≢false h)

put_behind : (hs : List Held) (h : Held) → list_any (λ x. ref_eq h.at x.at) hs ≡ false → finite.insert (with_records finite.empty hs) (key_of h.at) h.fields.fields ≡ with_records finite.empty (hs ++ h ∷ [])
put_behind hs h absent =
    ap (λ m. finite.insert m (key_of h.at) h.fields.fields) (as_entries hs)
    ∙ sym (from_entries_push key_total key_exact (over entry hs) (key_of h.at) h.fields.fields (none_of (find key_cmp (key_of h.at) (over entry hs)) (find_among h.at hs ∙ absent)))
    ∙ ap finite.from_entries (sym (map-append entry hs (h ∷ [])))
    ∙ sym (as_entries (hs ++ h ∷ []))

-- Entities that differ

same_both : (a b : Ref) → ref_eq a b ≡ ref_eq b a
same_both a b = ref_ties a b ∙ (eq_by_cmp_equiv key_total).symm (key_of a) (key_of b) ∙ sym (ref_ties b a)

one_behind : (hs : List Held) (h : Held) → list_any (λ x. ref_eq h.at x.at) hs ≡ false → entities_differ hs ≡ true → entities_differ (hs ++ h ∷ []) ≡ true
one_behind [] h absent differ = refl
one_behind (x ∷ hs) h absent differ =
    let both = and_parts (not (list_any (λ y. ref_eq x.at y.at) hs)) (entities_differ hs) differ in
    let apart = or_parts (ref_eq h.at x.at) (list_any (λ y. ref_eq h.at y.at) hs) absent in
    let none : list_any (λ y. ref_eq x.at y.at) (hs ++ h ∷ []) ≡ false =
    list_any-append (λ (y : Held). ref_eq x.at y.at) hs (h ∷ []) ∙ or_from (list_any (λ y. ref_eq x.at y.at) hs) (ref_eq x.at h.at || false) (not-true (list_any (λ y. ref_eq x.at y.at) hs) both.0)
    (or_from (ref_eq x.at h.at) false (same_both x.at h.at ∙ apart.0) refl) in
    (λ i. not (none i) && one_behind hs h apart.1 both.1 i)

apart : (hs : List Held) (h : Held) (more : List Held) → entities_differ (hs ++ h ∷ more) ≡ true → list_any (λ x. ref_eq h.at x.at) hs ≡ false
apart [] h more differ = refl
apart (x ∷ hs) h more differ =
    let both = and_parts (not (list_any (λ y. ref_eq x.at y.at) (hs ++ h ∷ more))) (entities_differ (hs ++ h ∷ more)) differ in
    let parts = or_parts (list_any (λ y. ref_eq x.at y.at) hs) (list_any (λ y. ref_eq x.at y.at) (h ∷ more))
    (sym (list_any-append (λ (y : Held). ref_eq x.at y.at) hs (h ∷ more)) ∙ not-true (list_any (λ y. ref_eq x.at y.at) (hs ++ h ∷ more)) both.0) in
    let other = or_parts (ref_eq x.at h.at) (list_any (λ y. ref_eq x.at y.at) more) parts.1 in
    or_from (ref_eq h.at x.at) (list_any (λ y. ref_eq h.at y.at) hs) (same_both h.at x.at ∙ other.0) (apart hs h more both.1)

-- ---- a state that is made of records

-- of all records those before these were put into a state, none of an entity that had one
pub record HasPut (state : Keyed) (left all : List Held) : Type 0 where
  pub before : List Held
  pub split : all ≡ before ++ left
  pub contents : state.contents ≡ with_records finite.empty before
  pub differ : entities_differ before ≡ true

module _ (state : Keyed) (h : Held) (more all : List Held) (so_far : HasPut state (h ∷ more) all) where
  there_now : is_some (finite.get state.contents (key_of h.at)) ≡ list_any (λ x. ref_eq h.at x.at) so_far.before
  there_now = ap (λ m. is_some (finite.get m (key_of h.at))) so_far.contents ∙ held_there h.at so_far.before

  -- the next entity is new
  pub next_put : (next : Keyed) → finite.get state.contents (key_of h.at) ≡ None → next.contents ≡ finite.insert state.contents (key_of h.at) h.fields.fields → HasPut next more all
  next_put next none put =
      let absent = sym there_now ∙ ap is_some none in
      record {
        before = so_far.before ++ h ∷ [];
        split = so_far.split ∙ sym (append_assoc so_far.before (h ∷ []) more);
        contents = put ∙ ap (λ m. finite.insert m (key_of h.at) h.fields.fields) so_far.contents ∙ put_behind so_far.before h absent;
        differ = one_behind so_far.before h absent so_far.differ;
      }

  -- or it stands twice
  pub next_twice : (finite.get state.contents (key_of h.at) ≡ None → ⊥) → entities_differ all ≡ false
  next_twice taken =
      false_from_ne_true (entities_differ all)
      (λ differ. taken (none_of (finite.get state.contents (key_of h.at)) (there_now ∙ apart so_far.before h more (ap entities_differ (sym so_far.split) ∙ differ))))

-- all were put
pub all_put : (state : Keyed) (left all : List Held) → HasPut state left all → left ≡ [] → (state.contents ≡ with_records finite.empty all) × (entities_differ all ≡ true)
all_put state left all so_far none =
    let same : all ≡ so_far.before = so_far.split ∙ ap (λ l. so_far.before ++ l) none ∙ append-nil so_far.before in
    (so_far.contents ∙ ap (with_records finite.empty) (sym same), ap entities_differ same ∙ so_far.differ)
