-- What a public reader answers, from what its reader reads.
use Rattle.std.proofs.Common.{◌≡◌, ℕ, ◌-◌, ◌≤◌, List as Items, ◌++◌, length, take, drop, Option, Some, None, Result, Ok, Err, IfOk, refl, sym, ap, subst, ◌∙◌, true≢false, arith}
use Rattle.std.specs.declared.alloc.AllocError.{AllocError}
use Rattle.std.proofs.lemmas.List.{take_at, take-append-drop, length-append, length-take}
use Rattle.sf_bytes.specs.declared.fault.Unread.{Unread}
use Rattle.sf_bytes.specs.declared.fault.Unread.TheVariants.{NoMemory, NoSpelling}
use Rattle.sf_bytes.specs.Reading.{Reader, Gives, Answers}
use Rattle.sf_bytes.specs.Reads.{BeginsWith, Reads, NoneBeginsAnother}
use Rattle.sf_bytes.proofs.Wide.{IsBytes}
use Rattle.sf_bytes.proofs.Laws.{Spells, some_is}

module _ {A : Type 0} (item_at : Reader A) (item_bytes : A → Items ℕ) (Fits : A → Type 0) (item : Spells item_at item_bytes Fits) where
  pub stands_apart : NoneBeginsAnother item_bytes Fits
  stands_apart a b after_a after_b fits_a fits_b same =
      ap (λ (p : A × Items ℕ). p.0) (some_is (a, after_a) (b, after_b) (sym (item.again a after_a fits_a) ∙ ap item_at same ∙ item.again b after_b fits_b))

  -- an item at the front is what the reader reads
  front_read : (bytes : Items ℕ) (x : A) (count : ℕ) → Fits x → take count bytes ≡ item_bytes x → item_at bytes ≡ Some (x, drop count bytes)
  front_read bytes x count fits front = ap item_at (sym (take-append-drop count bytes) ∙ ap (λ xs. xs ++ drop count bytes) front) ∙ item.again x (drop count bytes) fits

  module _ {X : Type 0} (view : X → A × Items ℕ) (bytes : Items ℕ) (are_bytes : IsBytes bytes) where
    -- what is left is no longer than what was there
    pub shorter : (read : Result X Unread) → Gives view read (item_at bytes) → IfOk read (λ x. length (view x).1 ≤ length bytes)
    shorter (Ok x) h =
        let t = item.takes bytes (view x).0 (view x).1 are_bytes h in
        omega (arith, ap length t.0, length-append (item_bytes (view x).0) (view x).1)
    shorter (Err e) h = tt

    nothing_found : (y : A) (rest : Items ℕ) → ◌≡◌ {A = Option (A × Items ℕ)} None (Some (y, rest)) → ⊥
    nothing_found y rest e = absurd cc

    found_is : (x : A) (rest : Items ℕ) → item_at bytes ≡ Some (x, rest) → Fits x × BeginsWith item_bytes bytes x (length bytes - length rest)
    found_is x rest read =
        let t = item.takes bytes x rest are_bytes read in
        let len : length bytes - length rest ≡ length (item_bytes x) = omega (arith, ap length t.0, length-append (item_bytes x) rest) in
        (t.1, (omega arith, ap (λ xs. take (length bytes - length rest) xs) t.0 ∙ take_at (item_bytes x) rest (length bytes - length rest) (sym len)))

    none_is : item_at bytes ≡ None → (x : A) (count : ℕ) → Fits x → BeginsWith item_bytes bytes x count → ⊥
    none_is read x count fits front = nothing_found x (drop count bytes) (sym read ∙ front_read bytes x count fits front.1)

    pub reads : (read : Result X Unread) (result : Result (Option (A × ℕ)) AllocError) → Gives view read (item_at bytes) → Answers (λ x. ((view x).0, length bytes - length (view x).1)) read result → Reads item_bytes Fits bytes result
    reads (Ok x) result h e = subst (Reads item_bytes Fits bytes) (sym e) (found_is (view x).0 (view x).1 h)
    reads (Err NoSpelling) result h e = subst (Reads item_bytes Fits bytes) (sym e) (none_is h)
    reads (Err NoMemory) (Ok read) h e = absurd (true≢false (sym e))
    reads (Err NoMemory) (Err f) h e = tt

-- what was written is read again, whatever follows it
pub read_again : {A : Type 0} (item_bytes : A → Items ℕ) (IsItem : A → Type 0) → NoneBeginsAnother item_bytes IsItem → (bytes : Items ℕ) (read : Option (A × ℕ)) → Reads item_bytes IsItem bytes (Ok read)
    → (x : A) (rest : Items ℕ) → IsItem x → bytes ≡ item_bytes x ++ rest → read ≡ Some (x, length (item_bytes x))
read_again item_bytes IsItem apart bytes None h x rest is e =
    absurd (h x (length (item_bytes x)) is (omega (arith, ap length e, length-append (item_bytes x) rest), ap (λ bs. take (length (item_bytes x)) bs) e ∙ take_at (item_bytes x) rest (length (item_bytes x)) refl))
read_again item_bytes IsItem apart bytes (Some found) h x rest is e =
    let whole : item_bytes found.0 ++ drop found.1 bytes ≡ item_bytes x ++ rest = ap (λ xs. xs ++ drop found.1 bytes) (sym h.1.1) ∙ take-append-drop found.1 bytes ∙ e in
    let same : found.0 ≡ x = apart found.0 x (drop found.1 bytes) rest h.0 is whole in
    let count : found.1 ≡ length (item_bytes x) = omega (arith, h.1.0, ap length h.1.1, length-take found.1 bytes, ap (λ y. length (item_bytes y)) same) in
    λ i. Some (same i, count i)
