-- What holds of each record of a list holds of each entity of the state that has these records, and the other way round.
use Rattle.std.proofs.Common.{◌≡◌, Bool, true, false, cond, not, Some, List, [], ◌∷◌, refl, sym, ap, ◌∙◌, subst, None}
use Rattle.std.specs.FinMap as finite
use Rattle.std.specs.List.{list_any, AllByRecursion}
use Rattle.std.specs.Ordering.{eq_by_cmp}
use Rattle.std.specs.Cmp.{eq_by_cmp_equiv}
use Rattle.std.proofs.lemmas.Bool.{and_parts, not-true}
use Rattle.std.proofs.lemmas.Option.{none-some, same_Some}
use Rattle.sf_value.specs.Keys.{Key, key_cmp, key_of}
use Rattle.sf_value.specs.declared.value.Value.{Value}
use Rattle.sf_value.specs.declared.Held.{Held}
use Rattle.sf_value.proofs.Maps.{ref_eq, key_total, tied_key}
use Rattle.program_meaning.specs.World.{State}
use Rattle.program_meaning.specs.Serial.{no_state}
use Rattle.keyed_state.specs.Works.{with_records, entities_differ}
use Rattle.kept_parts.proofs.RecordLaws.{held_there, none_of}

module _ (P : Key → List Value → Type 0) where
  abbrev pub OfHeld : Held → Type 0
  OfHeld held = P (key_of held.at) held.fields.fields

  abbrev pub OfEach : State → Type 0
  OfEach s = (at : Key) (fields : List Value) → finite.get s at ≡ Some fields → P at fields

  pub each_of_records : (records : List Held) → AllByRecursion OfHeld records → OfEach (with_records no_state records)
  each_of_records [] all = λ at fields there. absurd (none-some fields (sym (finite.get-empty key_cmp at) ∙ there))
  each_of_records (h ∷ records) all =
      λ at fields there.
      by at fields (eq_by_cmp key_cmp at (key_of h.at)) refl
      (sym (finite.get-insert key_total (with_records no_state records) (key_of h.at) h.fields.fields at) ∙ there)
      (each_of_records records all.1)
    where
      by : (at : Key) (fields : List Value) (b : Bool) → eq_by_cmp key_cmp at (key_of h.at) ≡ b
          → cond b (Some h.fields.fields) (finite.get (with_records no_state records) at) ≡ Some fields
          → OfEach (with_records no_state records) → P at fields
      by at fields true tie there later =
          subst (P at) (same_Some h.fields.fields fields there) (subst (λ q. P q h.fields.fields) (sym (tied_key at (key_of h.at) tie)) all.0)
      by at fields false tie there later = later at fields there

  -- without one of its entities
  each_but_one : (s : State) (k : Key) (fields : List Value) → finite.get s k ≡ None → OfEach (finite.insert s k fields) → OfEach s
  each_but_one s k fields none each = λ at held there. by at held (eq_by_cmp key_cmp at k) refl there
    where
      by : (at : Key) (held : List Value) (b : Bool) → eq_by_cmp key_cmp at k ≡ b → finite.get s at ≡ Some held → P at held
      by at held true tie there = absurd (none-some held (sym none ∙ ap (finite.get s) (sym (tied_key at k tie)) ∙ there))
      by at held false tie there = each at held (finite.get-insert key_total s k fields at ∙ ap (λ b. cond b (Some fields) (finite.get s at)) tie ∙ there)

  pub records_of_each : (records : List Held) → entities_differ records ≡ true → OfEach (with_records no_state records) → AllByRecursion OfHeld records
  records_of_each [] differ each = tt
  records_of_each (h ∷ records) differ each =
      let rest = with_records no_state records in
      let both = and_parts (not (list_any (λ x. ref_eq h.at x.at) records)) (entities_differ records) differ in
      let none = none_of (finite.get rest (key_of h.at)) (held_there h.at records ∙ not-true (list_any (λ x. ref_eq h.at x.at) records) both.0) in
      let put = finite.get-insert key_total rest (key_of h.at) h.fields.fields (key_of h.at) in
      let there = put ∙ ap (λ b. cond b (Some h.fields.fields) (finite.get rest (key_of h.at))) ((eq_by_cmp_equiv key_total).refl (key_of h.at)) in
      (each (key_of h.at) h.fields.fields there, records_of_each records both.1 (each_but_one rest (key_of h.at) h.fields.fields none each))
