-- Ids that differ, along a list of entries.
use Rattle.std.proofs.Common.{◌≡◌, ℕ, true, false, cond, not, List, [], ◌∷◌, ◌++◌, ◌+◌, None, Some, refl, sym, ap, ◌∙◌}
use Rattle.std.specs.Prelude.{bytes_eq}
use Rattle.std.proofs.lemmas.Bool.{and_parts, or_parts, or_from, not-true}
use Rattle.std.proofs.lemmas.Cmp.{nat_list_eq_equiv}
use Rattle.std.proofs.lemmas.List.Folds.{list_any-append}
use Rattle.sf_value.specs.declared.Entry.{Entry}
use Rattle.program_meaning.specs.Serial.{is_committed, ids_differ}
use Rattle.request_history.specs.Repeats.{placed, kept_from, kept_of}

-- where all ids differ, an entry is new to those before it
pub new_among : (es : List Entry) (e : Entry) (more : List Entry) → ids_differ (es ++ e ∷ more) ≡ true → is_committed es e.request.id ≡ false
new_among [] e more h = refl
new_among (x ∷ es) e more h =
    let both = and_parts (not (is_committed (es ++ e ∷ more) x.request.id)) (ids_differ (es ++ e ∷ more)) h in
    let parts = or_parts (is_committed es x.request.id) (is_committed (e ∷ more) x.request.id)
    (sym (list_any-append (λ (f : Entry). bytes_eq x.request.id f.request.id) es (e ∷ more)) ∙ not-true (is_committed (es ++ e ∷ more) x.request.id) both.0) in
    let apart = or_parts (bytes_eq x.request.id e.request.id) (is_committed more x.request.id) parts.1 in
    or_from (bytes_eq e.request.id x.request.id) (is_committed es e.request.id) (nat_list_eq_equiv.symm e.request.id x.request.id ∙ apart.0) (new_among es e more both.1)

-- an id that isn't committed has no entry
not_kept_from : (first : ℕ) (es : List Entry) (id : List ℕ) → is_committed es id ≡ false → kept_from first es id ≡ None
not_kept_from first [] id h = refl
not_kept_from first (e ∷ es) id h =
    let parts = or_parts (bytes_eq id e.request.id) (is_committed es id) h in
    ap (λ b. cond b (Some (placed first e)) (kept_from (first + 1) es id)) parts.0 ∙ not_kept_from (first + 1) es id parts.1

pub not_kept : (es : List Entry) (id : List ℕ) → is_committed es id ≡ false → kept_of es id ≡ None
unfolding kept_of
not_kept es id h = not_kept_from 1 es id h
