-- Places within the longest front of a text that is UTF-8: ASCII bytes are passed there, and those that were seen not to be broken.
use Rattle.std.proofs.Common.{◌≡◌, ℕ, suc, ◌+◌, ◌<◌, ◌≤◌, Bool, true, false, List, None, refl, sym, subst, ◌∙◌, arith, ⊎_elim, true≢false}
use Rattle.std.specs.Prelude.{◌-◌, ◌||◌, ◌&&◌, ◌==◌, if◌then◌else◌, slice_index}
use Rattle.std.specs.Str.Lossy.{utf8_valid_len}
use Rattle.std.proofs.lemmas.Bool.{and_parts, cases_Bool, cases_lt, cond-true, cond_both}
use Rattle.std.proofs.lemmas.Bool.Decides.{nat_tests}
use Rattle.std.proofs.lemmas.List.{get_or-drop}
use Rattle.std.proofs.lemmas.Option.{none-some}
use Rattle.py_lexer.specs.Cursor.{At, at_end, byte, rest, moved, next_line, line_end, is_line_end, past_line, ends, is_broken, stray}
use Rattle.accepted_texts.proofs.AsciiFronts.{IsAsciiFront, is_byte}

-- the n bytes from here on
abbrev pub AreAscii : ℕ → At → Type 0
AreAscii n i = (k : ℕ) → k < n → slice_index i.text (i.at + k) < 128

pub ascii_from : (n : ℕ) (i : At) → IsAsciiFront n (rest i) → AreAscii n i
unfolding rest
ascii_from n i front k less = subst (λ b. b < 128) (get_or-drop i.at i.text k 0) (front k less)

pub ascii_none : (i : At) → AreAscii 0 i
ascii_none i k less = absurd (omega (arith, less))

pub ascii_more : (n : ℕ) (i : At) → AreAscii n i → byte (moved n i) < 128 → AreAscii (suc n) i
unfolding byte moved
ascii_more n i so_far next k less = ⊎_elim
    (λ (below : k < n). so_far k below)
    (λ (last : n ≤ k). let same : n ≡ k = omega (arith, last, less) in subst (λ j. slice_index i.text (i.at + j) < 128) same next)
    (cases_lt k n)

pub ascii_one : (i : At) → byte i < 128 → AreAscii 1 i
unfolding byte moved
ascii_one i here = ascii_more 0 i (ascii_none i) (let same : i.at ≡ i.at + 0 = omega arith in subst (λ j. slice_index i.text j < 128) same here)

-- a line end
line_end_is_ascii : (i : At) → AreAscii (line_end i) i
unfolding line_end
line_end_is_ascii i = cond_both (byte i == 10) 1 (if byte i == 13 && byte (moved 1 i) == 10 then 2 else 0) (λ n. AreAscii n i)
    (λ lf. ascii_one i (is_byte (byte i) 10 (omega arith) lf))
    (λ other. cond_both (byte i == 13 && byte (moved 1 i) == 10) 2 0 (λ n. AreAscii n i)
    (λ cr.
    let both = and_parts _ _ cr in
    ascii_more 1 i (ascii_one i (is_byte (byte i) 13 (omega arith) both.0)) (is_byte (byte (moved 1 i)) 10 (omega arith) both.1))
    (λ none. ascii_none i))

-- a place of this text that is within its front
pub record IsInFront (text : List ℕ) (i : At) : Type 0 where
  pub same : i.text ≡ text
  pub within : i.at ≤ utf8_valid_len text

-- a byte that isn't broken stands in the front
unbroken : (i : At) → at_end i ≡ false → is_broken i ≡ false → i.at < utf8_valid_len i.text
unfolding at_end is_broken
unbroken i inside fine = grind (arith, nat_tests)

pub not_stray : (i : At) → stray i ≡ None → is_broken i ≡ false
unfolding stray
not_stray i e = ⊎_elim (λ broken. absurd (none-some _ (sym e ∙ cond-true (is_broken i) _ _ broken))) (λ fine. fine) (cases_Bool (is_broken i))

neither : (a b : Bool) → (a || b) ≡ false → a ≡ false
neither true b e = absurd (true≢false e)
neither false b e = refl

pub not_at_end : (i : At) → ends i ≡ false → at_end i ≡ false
unfolding ends
not_at_end i e = neither (at_end i) (is_line_end i) e

module _ (text : List ℕ) where
  pub byte_passes : (i : At) → at_end i ≡ false → is_broken i ≡ false → IsInFront text i → IsInFront text (moved 1 i)
  unfolding moved
  byte_passes i inside fine s =
      let less : i.at < utf8_valid_len text = subst (λ t. i.at < utf8_valid_len t) s.same (unbroken i inside fine) in
      record { same = s.same; within = omega (arith, less) }

  -- the front ends before a byte that isn't ASCII
  module _ (wide : 128 ≤ slice_index text (utf8_valid_len text)) where
    pub ascii_passes : (i : At) (n : ℕ) → AreAscii n i → IsInFront text i → IsInFront text (moved n i)
    unfolding moved
    ascii_passes i n ascii s =
        let v : ℕ = utf8_valid_len text in
        record {
          same = s.same;
          within = ⊎_elim
              (λ (beyond : v < i.at + n).
              let at : i.at + (v - i.at) ≡ v = omega (arith, s.within) in
              let here : slice_index i.text (i.at + (v - i.at)) < 128 = ascii (v - i.at) (omega (arith, beyond, s.within)) in
              let small : slice_index text v < 128 = subst (λ t. slice_index t v < 128) s.same (subst (λ j. slice_index i.text j < 128) at here) in
              absurd (omega (arith, small, wide)))
              (λ (within : i.at + n ≤ v). within)
              (cases_lt v (i.at + n));
        }

    next_passes : (i : At) (n : ℕ) → IsInFront text (moved n i) → IsInFront text (next_line n i)
    unfolding moved next_line
    next_passes i n s = record { same = s.same; within = s.within }

    pub line_passes : (i : At) → IsInFront text i → IsInFront text (past_line i)
    unfolding past_line
    line_passes i s = cond_both (is_line_end i) (next_line (line_end i) i) i (IsInFront text)
        (λ _. next_passes i (line_end i) (ascii_passes i (line_end i) (line_end_is_ascii i) s)) (λ _. s)
