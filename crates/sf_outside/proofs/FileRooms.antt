-- A file in a room that is filled with zeros behind its end: what a write into the room makes of both.
use Rattle.std.proofs.Common.{◌≡◌, ℕ, ◌+◌, ◌-◌, ◌≤◌, ◌<◌, List, [], ◌∷◌, ◌++◌, length, take, drop, replicate, max, refl, sym, ap, ◌∙◌, inl, inr, arith, length-append, take-append-drop}
use Rattle.std.proofs.lemmas.Bool.{cases_lt}
use Rattle.std.proofs.lemmas.List.{append_assoc, take-append-le, drop_at, drop-drop, drop-take, drop_all, drop-replicate, length-take-le, length-replicate, replicate-append-replicate}
use Rattle.std.proofs.lemmas.Slice.{take-put_mid, drop-put_mid}
use borrow.Rule.Slice.PartMut.{put_mid}
use Rattle.sf_outside.specs.DiskModel.{written}
use Rattle.sf_outside.proofs.Fronts.{take_past}
use Rattle.sf_outside.proofs.Writes.{front}

-- what is left of a front
drop_front : (all : List ℕ) (n len : ℕ) → len ≤ length all → drop n (take len all) ≡ take (len - n) (drop n all)
drop_front all n len within = elim (cases_lt len n) [
  | inl past ↦ let none : len - n ≡ 0 = omega (arith, past) in
      drop_all n (take len all) (omega (arith, past, length-take-le len all within)) ∙ ap (λ k. take k (drop n all)) (sym none)
  | inr before ↦ ap (λ k. drop n (take k all)) (omega (arith, before)) ∙ drop-take n (len - n) all
]

-- more zeros than a front has room for
take_padded : (file : List ℕ) (at zeros : ℕ) → at - length file ≤ zeros → take at (file ++ replicate zeros 0) ≡ front file at
take_padded file at zeros enough =
    let gap = at - length file in
    let whole : zeros ≡ gap + (zeros - gap) = omega (arith, enough) in
    let more : replicate {A = ℕ} zeros 0 ≡ replicate gap 0 ++ replicate (zeros - gap) 0 = ap (λ n. replicate n 0) whole ∙ sym (replicate-append-replicate gap (zeros - gap) 0) in
    ap (λ l. take at (file ++ l)) more ∙ ap (take at) (sym (append_assoc file (replicate gap 0) (replicate (zeros - gap) 0)))
    ∙ take-append-le at (file ++ replicate gap 0) (replicate (zeros - gap) 0) (omega (arith, length-append file (replicate gap 0), length-replicate {A = ℕ} gap 0))

module _ (room : List ℕ) (len at : ℕ) (bytes : List ℕ) (within : len ≤ length room) (fits : at + length bytes ≤ length room) (zeros : drop len room ≡ replicate (length room - len) 0) where
  front_is : take at room ≡ front (take len room) at
  front_is =
      ap (take at) (sym (take-append-drop len room) ∙ ap (λ l. take len room ++ l) zeros)
      ∙ take_padded (take len room) at (length room - len) (omega (arith, fits, length-take-le len room within))

  length_front : length (take at room ++ bytes) ≡ at + length bytes
  length_front = length-append (take at room) bytes ∙ ap (λ n. n + length bytes) (length-take-le at room (omega (arith, fits)))

  -- the new file
  pub room_written : (now : ℕ) → now ≡ max len (at + length bytes) → 0 < length bytes → take now (take at room ++ bytes ++ drop (at + length bytes) room) ≡ written (take len room) at bytes
  room_written now is some =
      take_past (take at room ++ bytes) (drop (at + length bytes) room) now (omega (arith, is, length_front))
      ∙ ap (λ k. (take at room ++ bytes) ++ take k (drop (at + length bytes) room)) (omega (arith, is, length_front))
      ∙ ap (λ l. (take at room ++ bytes) ++ l) (sym (drop_front room (at + length bytes) len within))
      ∙ ap (λ l. l ++ bytes ++ drop (at + length bytes) (take len room)) front_is
      ∙ is_written bytes some
    where
      is_written : (bs : List ℕ) → 0 < length bs → front (take len room) at ++ bs ++ drop (at + length bs) (take len room) ≡ written (take len room) at bs
      is_written [] none = absurd (omega (arith, none))
      is_written (b ∷ bs) some = refl

  -- and the zeros behind it
  pub room_zeros : (now : ℕ) → now ≡ max len (at + length bytes) → drop now (take at room ++ bytes ++ drop (at + length bytes) room) ≡ replicate (length room - now) 0
  room_zeros now is =
      let past = now - (at + length bytes) in
      let grown = now - len in
      ap (λ n. drop n (take at room ++ bytes ++ drop (at + length bytes) room)) (omega (arith, is))
      ∙ sym (drop-drop past (at + length bytes) (take at room ++ bytes ++ drop (at + length bytes) room))
      ∙ ap (drop past) (drop_at (take at room ++ bytes) (drop (at + length bytes) room) (at + length bytes) length_front)
      ∙ drop-drop past (at + length bytes) room
      ∙ ap (λ n. drop n room) (omega (arith, is))
      ∙ sym (drop-drop grown len room)
      ∙ ap (drop grown) zeros
      ∙ drop-replicate grown (length room - len) 0
      ∙ ap (λ n. replicate n 0) (omega (arith, is))

-- a part of a slice after other bytes were copied into it
pub mid_written : (room bytes copied : List ℕ) (at k : ℕ) → at + k ≤ length room → length bytes ≡ k → copied ≡ bytes → put_mid at k room copied ≡ take at room ++ bytes ++ drop (at + length bytes) room
mid_written room bytes copied at k fits long same =
    let end = at + length bytes in
    ap (put_mid at k room) same ∙ sym (take-append-drop end (put_mid at k room bytes))
    ∙ ap (λ l. l ++ drop end (put_mid at k room bytes)) (take-put_mid at k room bytes end refl (omega (arith, fits)))
    ∙ ap (λ l. (take at room ++ bytes) ++ l) (drop-put_mid at k room bytes end (omega (arith, long)) (omega (arith, fits)) long)
