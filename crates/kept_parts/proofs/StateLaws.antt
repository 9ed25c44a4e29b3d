-- Records that fit make a state that fits, and the other way round.
use Rattle.std.proofs.Common.{◌≡◌, Bool, true, false, cond, not, Some, None, List, [], ◌∷◌, refl, sym, ap, ◌∙◌, subst}
use Rattle.std.specs.List.{list_any, AllByRecursion}
use Rattle.std.specs.Ordering.{eq_by_cmp}
use Rattle.std.specs.Cmp.{eq_by_cmp_equiv}
use Rattle.std.specs.FinMap as finite
use Rattle.std.proofs.lemmas.Bool.{and_parts, not-true}
use Rattle.std.proofs.lemmas.Option.{none-some, same_Some}
use Rattle.py_tree.specs.ClassRules.{PlainTable}
use Rattle.sf_value.specs.Keys.{Key, key_cmp, key_of}
use Rattle.sf_value.specs.declared.value.Value.{Value}
use Rattle.sf_value.specs.declared.Held.{Held}
use Rattle.sf_value.proofs.Maps.{ref_eq, key_total, tied_key}
use Rattle.program_meaning.specs.Fits.{RecordFits, StateFits}
use Rattle.keyed_state.specs.Contents.{Contents}
use Rattle.keyed_state.specs.Works.{with_records, entities_differ}
use Rattle.kept_parts.proofs.RecordLaws.{held_there, none_of}

module _ (tables : List PlainTable) where
  abbrev pub HeldFits : Held → Type 0
  HeldFits held = RecordFits tables held.at.class held.fields.fields

  -- records that fit make a state that fits
  pub state_of_fits : (hs : List Held) → AllByRecursion HeldFits hs → StateFits tables (with_records finite.empty hs)
  state_of_fits [] all = record { each = λ at fields e. absurd (none-some fields (sym (finite.get-empty key_cmp at) ∙ e)) }
  state_of_fits (h ∷ hs) all = record {
    each = λ at fields e. by at fields (eq_by_cmp key_cmp at (key_of h.at)) refl (sym (finite.get-insert key_total (with_records finite.empty hs) (key_of h.at) h.fields.fields at) ∙ e) (state_of_fits hs all.1);
  }
    where
      by : (at : Key) (fields : List Value) (b : Bool) → eq_by_cmp key_cmp at (key_of h.at) ≡ b → cond b (Some h.fields.fields) (finite.get (with_records finite.empty hs) at) ≡ Some fields → StateFits tables (with_records finite.empty hs)
          → RecordFits tables at.0 fields
      by at fields true tie is later = subst (RecordFits tables at.0) (same_Some h.fields.fields fields is) (subst (λ (q : Key). RecordFits tables q.0 h.fields.fields) (sym (tied_key at (key_of h.at) tie)) all.0)
      by at fields false tie is later = later.each at fields is

  -- a state fits without one of its entities
  state_behind : (s : Contents) (k : Key) (fields : List Value) → finite.get s k ≡ None → StateFits tables (finite.insert s k fields) → StateFits tables s
  state_behind s k fields none fit = record { each = λ at held e. by at held (eq_by_cmp key_cmp at k) refl e }
    where
      by : (at : Key) (held : List Value) (b : Bool) → eq_by_cmp key_cmp at k ≡ b → finite.get s at ≡ Some held → RecordFits tables at.0 held
      by at held true tie e = absurd (none-some held (sym none ∙ ap (finite.get s) (sym (tied_key at k tie)) ∙ e))
      by at held false tie e = fit.each at held (finite.get-insert key_total s k fields at ∙ ap (λ b. cond b (Some fields) (finite.get s at)) tie ∙ e)

  -- the records of a state that fits, which holds each entity once, fit
  pub fits_of_state : (hs : List Held) → entities_differ hs ≡ true → StateFits tables (with_records finite.empty hs) → AllByRecursion HeldFits hs
  fits_of_state [] differ fit = tt
  fits_of_state (h ∷ hs) differ fit =
      let both = and_parts (not (list_any (λ x. ref_eq h.at x.at) hs)) (entities_differ hs) differ in
      let none = none_of (finite.get (with_records finite.empty hs) (key_of h.at)) (held_there h.at hs ∙ not-true (list_any (λ x. ref_eq h.at x.at) hs) both.0) in
      let here = fit.each (key_of h.at) h.fields.fields
      (finite.get-insert key_total (with_records finite.empty hs) (key_of h.at) h.fields.fields (key_of h.at)
      ∙ ap (λ b. cond b (Some h.fields.fields) (finite.get (with_records finite.empty hs) (key_of h.at))) ((eq_by_cmp_equiv key_total).refl (key_of h.at))) in
      (here, fits_of_state hs both.1 (state_behind (with_records finite.empty hs) (key_of h.at) h.fields.fields none fit))
