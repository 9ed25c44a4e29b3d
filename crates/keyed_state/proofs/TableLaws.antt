-- The table of records, seen as a finite map of their fields, and its entries as a list.
use Rattle.std.proofs.Common.{◌≡◌, ◌∙◌, ◌↔◌, ℕ, ◌+◌, Bool, true, false, true≢false, cond, not, ◌&&◌, ◌||◌, List, [], ◌∷◌, ◌++◌, map as over, take, Option, Some, None, refl, sym, ap}
use Rattle.std.specs.Prelude.{slice_get, is_some, IsTrue}
use Rattle.std.specs.List.{list_any, AllByRecursion, IsDistinct}
use Rattle.std.specs.Map.{lookup}
use Rattle.std.specs.Option.{option_map}
use Rattle.std.specs.FinMap as finite
use Rattle.std.proofs.lemmas.List.{take_more, map-append}
use Rattle.std.proofs.lemmas.Map.Made.{lookup-map_values}
use Rattle.std.proofs.lemmas.Option.{get_or_from_slice_get, slice_get_within, none-some}
use Rattle.indexmap.specs.IndexMap.{insert_entry}
use Rattle.sf_value.specs.Keys.{key_of}
use Rattle.sf_value.specs.declared.value.Value.{Value}
use Rattle.sf_value.specs.declared.value.Ref.{Ref}
use Rattle.sf_value.specs.declared.value.Record.{Record}
use Rattle.sf_value.specs.declared.Held.{Held}
use Rattle.sf_value.proofs.Maps.{ref_eq, get-keyed, insert-keyed}
use Rattle.keyed_state.specs.Contents.{fields_of, contents_of}
use Rattle.keyed_state.specs.Works.{with_records, entities_differ}
use Rattle.keyed_state.specs.Listing.{held_of}

-- what the table answers is what the map holds
pub get-contents : (entries : List (Ref × Record)) (at : Ref) → option_map (λ r. r.fields) (lookup (ref_eq at) entries) ≡ finite.get (contents_of entries) (key_of at)
get-contents entries at = sym (lookup-map_values (λ (r : Record). r.fields) (ref_eq at) entries) ∙ sym (get-keyed (fields_of entries) at)

-- the table has no record of an entity exactly where the map has none
pub none_there : (entries : List (Ref × Record)) (at : Ref) (before : Option Record) (none : Bool) → before ≡ lookup (ref_eq at) entries → is_some before ≡ not none → IsTrue none ↔ (finite.get (contents_of entries) (key_of at) ≡ None)
none_there entries at before none is tells = by before none tells (ap (option_map (λ (r : Record). r.fields)) is ∙ get-contents entries at)
  where
    by : (o : Option Record) (b : Bool) → is_some o ≡ not b → option_map (λ (r : Record). r.fields) o ≡ finite.get (contents_of entries) (key_of at) → IsTrue b ↔ (finite.get (contents_of entries) (key_of at) ≡ None)
    by None true tells same = (λ _. sym same, λ _. refl)
    by None false tells same = absurd (true≢false (sym tells))
    by (Some r) true tells same = absurd (true≢false tells)
    by (Some r) false tells same = (λ h. absurd (true≢false (sym h)), λ h. absurd (none-some r.fields (sym (same ∙ h))))

fields-insert : (entries : List (Ref × Record)) (at : Ref) (new : Record) → fields_of (insert_entry ref_eq entries at new) ≡ insert_entry ref_eq (fields_of entries) at new.fields
fields-insert [] at new = refl
fields-insert (e ∷ more) at new = by (ref_eq at e.0) (fields-insert more at new)
  where
    by : (b : Bool) → fields_of (insert_entry ref_eq more at new) ≡ insert_entry ref_eq (fields_of more) at new.fields
        → fields_of (cond b ((e.0, new) ∷ more) (e ∷ insert_entry ref_eq more at new)) ≡ cond b ((e.0, new.fields) ∷ fields_of more) ((e.0, e.1.fields) ∷ insert_entry ref_eq (fields_of more) at new.fields)
    by true later = refl
    by false later = ap (λ l. (e.0, e.1.fields) ∷ l) later

-- what is put into the table is put into the map
pub insert-contents : (entries : List (Ref × Record)) (at : Ref) (new : Record) → contents_of (insert_entry ref_eq entries at new) ≡ finite.insert (contents_of entries) (key_of at) new.fields
insert-contents entries at new = ap (λ l. finite.from_entries (over (λ (e : Ref × List Value). (key_of e.0, e.1)) l)) (fields-insert entries at new) ∙ insert-keyed (fields_of entries) at new.fields

-- The entries, listed

pub listed_one_more : (entries : List (Ref × Record)) (i : ℕ) (e : Ref × Record) (all more : List Held) → slice_get entries i ≡ Some e → all ≡ over held_of (take i entries) → more ≡ all ++ held_of e ∷ [] → more ≡ over held_of (take (i + 1) entries)
listed_one_more entries i e all more at before is =
    is
    ∙ ap (λ l. l ++ held_of e ∷ []) before
    ∙ sym (map-append held_of (take i entries) (e ∷ []))
    ∙ ap (over held_of) (sym (take_more entries i e (slice_get_within entries i e at) ∙ ap (λ x. take i entries ++ x ∷ []) (get_or_from_slice_get entries i e e at)))

not_listed : (at : Ref) (entries : List (Ref × Record)) → AllByRecursion (λ y. ref_eq at y ≡ false) (over (λ e. e.0) entries) → list_any (λ x. ref_eq at x.at) (over held_of entries) ≡ false
not_listed at [] apart = refl
not_listed at (e ∷ more) apart = λ i. apart.0 i || not_listed at more apart.1 i

pub listed_once : (entries : List (Ref × Record)) → IsDistinct ref_eq (over (λ e. e.0) entries) → entities_differ (over held_of entries) ≡ true
unfolding IsDistinct
listed_once [] distinct = refl
listed_once (e ∷ more) distinct = (λ i. not (not_listed e.0 more distinct.0 i) && entities_differ (over held_of more)) ∙ listed_once more distinct.1

-- the list of all entries makes the contents
pub listed_contents : (entries : List (Ref × Record)) → with_records finite.empty (over held_of entries) ≡ contents_of entries
listed_contents [] = refl
listed_contents (e ∷ more) = ap (λ m. finite.insert m (key_of e.0) e.1.fields) (listed_contents more)
