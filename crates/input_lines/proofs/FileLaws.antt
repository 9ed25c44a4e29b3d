-- A file that is read by places, as an input that is taken from its front.
use Rattle.std.proofs.Common.{◌≡◌, ℕ, zero, suc, ◌+◌, ◌-◌, ◌<◌, ◌≤◌, List, [], ◌∷◌, ◌++◌, length, take, drop, Some, None, Ok, Bool, true, false, nat_le, refl, sym, ap, ◌∙◌, subst, take-append-drop, arith}
use Rattle.std.proofs.lemmas.Bool.Decides.{nat_tests}
use Rattle.std.proofs.lemmas.List.{drop-drop, drop_all, length-take, length-append, take-append-le}
use Rattle.std.specs.declared.option.Option.{Option}
use Rattle.std.specs.Io.KnownBytes.{Keeps, Consumes, IsAtEnd}
use Rattle.std.proofs.KnownBytes.{Keeps-refl}
use Rattle.sf_outside.specs.Bytes.{Copied, ReadsAt}
use Rattle.input_lines.specs.declared.lines.Lines.{Lines}
use Rattle.input_lines.specs.Reads.{Uses, TakesPiece}
use Rattle.input_lines.specs.FileReads.{left_from, AsksAt}

-- what was copied from a place stands before what stands at a later one
copied_first : (all buf : List ℕ) (at n : ℕ) → Copied all at n buf → n ≤ length buf → drop at all ≡ take n buf ++ drop (at + n) all
copied_first all buf at n c within =
    sym (take-append-drop n (drop at all)) ∙ ap (λ l. l ++ drop n (drop at all)) (sym c.bytes) ∙ ap (λ l. take n buf ++ l) (drop-drop n at all)

consumed_at : (E : Type 0) (content : Option (List ℕ)) (buf : List ℕ) (at n : ℕ) → ReadsAt {E = E} content at (Ok n) buf → n ≤ length buf
    → Consumes (left_from content at) (left_from content (at + n)) (take n buf)
consumed_at E None buf at n r within = tt
consumed_at E (Some all) buf at n r within = copied_first all buf at n r within

none_only_at_end : (E : Type 0) (content : Option (List ℕ)) (buf : List ℕ) (at n : ℕ) → ReadsAt {E = E} content at (Ok n) buf → n ≡ 0 → 0 < length buf
    → IsAtEnd (left_from content at)
none_only_at_end E None buf at n r none room = tt
none_only_at_end E (Some all) buf at n r none room = drop_all at all (r.end none room)

-- a piece that was read at a place was taken from there
pub piece_at : (E : Type 0) (content : Option (List ℕ)) (room at n : ℕ) (buf piece : List ℕ) → ReadsAt {E = E} content at (Ok n) buf → n ≤ length buf → 0 < length buf
    → length buf ≤ room → piece ≡ take n buf → TakesPiece room (left_from content at) (left_from content (at + length piece)) piece n
piece_at E content room at n buf piece r within some most is =
    let counted : length piece ≡ n = ap length is ∙ omega (arith, length-take n buf, within) in
    record {
      consumed = subst (λ k. Consumes (left_from content at) (left_from content (at + k)) piece) (sym counted)
          (subst (Consumes (left_from content at) (left_from content (at + n))) (sym is) (consumed_at E content buf at n r within));
      counted = counted;
      within = omega (arith, within, most);
      end = λ none. subst (λ k. IsAtEnd (left_from content k)) (omega (arith, none, counted)) (none_only_at_end E content buf at n r none some);
    }

-- what stands in a piece that was read into its front
pub first_bytes : (n : ℕ) (buf rest : List ℕ) → n ≤ length buf → take (n - 0) (drop 0 (buf ++ rest)) ≡ take n buf
first_bytes n buf rest within = ap (λ k. take k (buf ++ rest)) (omega arith) ∙ take-append-le n buf rest within

-- none was taken
pub kept_at : (content : Option (List ℕ)) (at : ℕ) (piece : List ℕ) → piece ≡ [] → Keeps (left_from content at) (left_from content (at + length piece))
kept_at content at piece none = subst (λ k. Keeps (left_from content at) (left_from content k)) (omega (arith, ap length none)) (Keeps-refl (left_from content at))

one_byte : (all buf : List ℕ) (at n : ℕ) → Copied all at n buf → n ≤ length buf → length buf ≡ 1 → 0 < n → (next : ℕ) × (drop at all ≡ (next ∷ []) ++ drop (at + 1) all)
one_byte all [] at n c within one some = absurd (omega (arith, one))
one_byte all (b ∷ []) at zero c within one some = absurd (omega (arith, some))
one_byte all (b ∷ []) at (suc zero) c within one some = (b, copied_first all (b ∷ []) at 1 c within)
one_byte all (b ∷ []) at (suc (suc n)) c within one some = absurd (omega (arith, within))
one_byte all (b ∷ d ∷ bs) at n c within one some = absurd (omega (arith, one))

-- one byte was read, or none
pub one_at : (E : Type 0) (content : Option (List ℕ)) (at n : ℕ) (buf : List ℕ) → ReadsAt {E = E} content at (Ok n) buf → n ≤ length buf → length buf ≡ 1 → 0 < n
    → (next : ℕ) × Consumes (left_from content at) (left_from content (at + 1)) (next ∷ [])
one_at E None at n buf r within one some = (0, tt)
one_at E (Some all) at n buf r within one some = one_byte all buf at n r within one some

pub end_at : (E : Type 0) (content : Option (List ℕ)) (at n : ℕ) (buf : List ℕ) → ReadsAt {E = E} content at (Ok n) buf → length buf ≡ 1 → n ≡ 0 → IsAtEnd (left_from content at)
end_at E content at n buf r one none = none_only_at_end E content buf at n r none (omega (arith, one))

pub asks_at : (E : Type 0) (content : Option (List ℕ)) (at n : ℕ) (buf : List ℕ) → ReadsAt {E = E} content at (Ok n) buf → n ≤ length buf → length buf ≡ 1
    → AsksAt at content {E = E} (Ok (nat_le 1 n))
asks_at E content at n buf r within one = by (nat_le 1 n) refl
  where
    by : (b : Bool) → nat_le 1 n ≡ b → AsksAt at content {E = E} (Ok b)
    by true is = one_at E content at n buf r within one (grind (arith, nat_tests))
    by false is = end_at E content at n buf r one (grind (arith, nat_tests))

-- ---- where a reader stands in a file

-- what takes nothing leaves the room
pub same_room : {old new : Lines} {used : List ℕ} → Uses old new (Some []) (Some []) used → new.room ≡ old.room
same_room u = omega (arith, u.counted, ap length u.consumed, length-append u.taken [])

-- one place by two numbers
pub at_same : (P : Option (List ℕ) → Type 0) (content : Option (List ℕ)) (a b : ℕ) → a ≡ b → P (left_from content a) → P (left_from content b)
at_same P content a b is = subst (λ k. P (left_from content k)) is
