-- Mapped states, entity by entity.
use Rattle.std.proofs.Common.{◌≡◌, ℕ, Bool, true, false, cond, Option, Some, None, List, [], ◌∷◌, ◌++◌, map as over, refl, sym, ap, ◌∙◌, not, ◌&&◌, ◌||◌}
use Rattle.std.specs.Prelude.{option_map, slice_index_or}
use Rattle.std.specs.List.{list_any}
use Rattle.std.specs.Ordering.{eq_by_cmp}
use Rattle.std.specs.FinMap as finite
use Rattle.std.specs.FinMap.{find, get-empty, get-entries, get-from_entries, get-insert, same_map}
use Rattle.sf_value.specs.Keys.{Key, key_cmp, key_of}
use Rattle.sf_value.specs.declared.Held.{Held}
use Rattle.sf_value.specs.declared.value.Value.{Value}
use Rattle.sf_value.proofs.Maps.{key_total, key_exact, tied_key, ref_eq}
use Rattle.keyed_state.specs.Works.{with_records, entities_differ}
use Rattle.program_meaning.specs.Serial.{no_state}
use Rattle.program_meaning.specs.World.{State}
use Rattle.program_upgrade.specs.Mapping.{with_added, mapped_held, mapped_records, mapped_entry, mapped_state}
use Rattle.program_upgrade.specs.UpgradeLaws.{EachIsMapped, RecordsAreMapped, EntitiesStay}

module _ (added : List (List Value)) where
  -- the record of an entity, mapped
  abbrev pub mapped_at : Key → Option (List Value) → Option (List Value)
  mapped_at at o = option_map (with_added added at.0) o

  -- where the key is this one, its record is the one looked for
  chosen : (at key : Key) (fields : List Value) (rest : Option (List Value)) (b : Bool) → eq_by_cmp key_cmp at key ≡ b
      → cond b (Some (with_added added key.0 fields)) (mapped_at at rest) ≡ mapped_at at (cond b (Some fields) rest)
  chosen at key fields rest true tie = ap (λ (k : Key). Some (with_added added k.0 fields)) (sym (tied_key at key tie))
  chosen at key fields rest false tie = refl

  find_mapped : (at : Key) (es : List (Key × List Value)) → find key_cmp at (over (mapped_entry added) es) ≡ mapped_at at (find key_cmp at es)
  find_mapped at [] = refl
  find_mapped at (e ∷ es) =
      ap (cond (eq_by_cmp key_cmp at e.0) (Some (with_added added e.0.0 e.1))) (find_mapped at es)
      ∙ chosen at e.0 e.1 (find key_cmp at es) (eq_by_cmp key_cmp at e.0) refl

  pub get_mapped : (s : State) (at : Key) → finite.get (mapped_state added s) at ≡ mapped_at at (finite.get s at)
  unfolding mapped_state
  get_mapped s at =
      get-from_entries key_total (over (mapped_entry added) (finite.entries s)) at
      ∙ find_mapped at (finite.entries s)
      ∙ ap (mapped_at at) (sym (get-entries s at))

  records_at : (records : List Held) (at : Key) → finite.get (with_records no_state (mapped_records added records)) at ≡ mapped_at at (finite.get (with_records no_state records) at)
  records_at [] at = get-empty key_cmp at ∙ ap (mapped_at at) (sym (get-empty key_cmp at))
  records_at (h ∷ more) at =
      get-insert key_total (with_records no_state (mapped_records added more)) (key_of h.at) (with_added added h.at.class h.fields.fields) at
      ∙ ap (cond (eq_by_cmp key_cmp at (key_of h.at)) (Some (with_added added h.at.class h.fields.fields))) (records_at more at)
      ∙ chosen at (key_of h.at) h.fields.fields (finite.get (with_records no_state more) at) (eq_by_cmp key_cmp at (key_of h.at)) refl
      ∙ ap (mapped_at at) (sym (get-insert key_total (with_records no_state more) (key_of h.at) h.fields.fields at))

  same_any : (h : Held) (records : List Held) → list_any (λ (x : Held). ref_eq h.at x.at) (mapped_records added records) ≡ list_any (λ (x : Held). ref_eq h.at x.at) records
  same_any h [] = refl
  same_any h (x ∷ more) = λ i. ref_eq h.at x.at || same_any h more i

  pub entities_stay_in : (records : List Held) → entities_differ (mapped_records added records) ≡ entities_differ records
  entities_stay_in [] = refl
  entities_stay_in (h ∷ more) = λ i. not (same_any h more i) && entities_stay_in more i

pub each_is_mapped : EachIsMapped
each_is_mapped added s at = get_mapped added s at

pub records_are_mapped : RecordsAreMapped
records_are_mapped added records = same_map key_total key_exact _ _ (λ at. records_at added records at ∙ sym (get_mapped added (with_records no_state records) at))

pub entities_stay : EntitiesStay
entities_stay added records = entities_stay_in added records
