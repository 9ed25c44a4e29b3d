-- What is read is spelt so, and what is spelt so is read.
use Rattle.std.proofs.Common.{◌≡◌, ℕ, zero, suc, ℤ, ◌^◌, ◌<◌, ◌≤◌, Bool, true, false, cond, ltb, List as Items, [], ◌∷◌, ◌++◌, length, take, drop, Option, Some, None, refl, sym, ap, subst, ◌∙◌, append_assoc, arith, FitsSigned}
use Rattle.std.specs.Int.{Width, w32, w64, w128, byte_len, from_be_bytes, to_be_bytes, cast_signed, cast_unsigned}
use Rattle.std.specs.List.{flat_map, AllByRecursion}
use Rattle.std.specs.Str.{IsUtf8, is_utf8, chars, all_scalars, encode_utf8_all}
use Rattle.std.proofs.lemmas.Bool.{ltb-false, le-ltb}
use Rattle.std.proofs.lemmas.Int.{to_z-of_z, of_z-to_z}
use Rattle.std.proofs.Math.Facts.{Fits-of_z, Fits-of_lt, Fits-lt-pow, sfits_to_z}
use Rattle.std.proofs.lemmas.List.{take_at, drop_at, take-append-drop, length-append, length-take}
use Rattle.std.proofs.lemmas.Str.{IsUtf8-from_is_utf8, is_utf8-from_IsUtf8, encodes-chars, chars-encodes}
use Rattle.sf_bytes.specs.ByteForms.{number_bytes, long_bytes, int_bytes, text_bytes, list_bytes, long_list_bytes}
use Rattle.sf_bytes.specs.Reading.{Reader, ◌>>=◌, number_at, long_at, int_at, text_at, items_at, list_at, long_list_at}
use Rattle.sf_bytes.specs.Spelt.{IsShortText, IsRealText}
use Rattle.sf_bytes.proofs.Wide.{IsBytes, IsBytes-rest, IsBytes-take, IsWide, wide32, wide64, wide128}

-- a reader reads what these bytes stand for, and nothing else
pub record Spells {A : Type 0} (item_at : Reader A) (item_bytes : A → Items ℕ) (Fits : A → Type 0) : Type 0 where
  pub takes : (bytes : Items ℕ) (x : A) (rest : Items ℕ) → IsBytes bytes → item_at bytes ≡ Some (x, rest) → (bytes ≡ item_bytes x ++ rest) × Fits x
  pub again : (x : A) (rest : Items ℕ) → Fits x → item_at (item_bytes x ++ rest) ≡ Some (x, rest)

-- ---- steps

-- the value of a step that found one
pub bind_some : {A B : Type 0} (r : Option A) (f : A → Option B) (y : B) → (r >>= f) ≡ Some y → (x : A) × (r ≡ Some x) × (f x ≡ Some y)
bind_some (Some x) f y e = (x, refl, e)
bind_some None f y e = absurd cc

-- a test that did not fail
pub guard_some : {A : Type 0} (b : Bool) (r : Option A) (y : A) → cond b None r ≡ Some y → (b ≡ false) × (r ≡ Some y)
guard_some true r y e = absurd cc
guard_some false r y e = (refl, e)

pub guard_true : {A : Type 0} (b : Bool) (r : Option A) (y : A) → cond b r None ≡ Some y → (b ≡ true) × (r ≡ Some y)
guard_true true r y e = (refl, e)
guard_true false r y e = absurd cc

abbrev pub found : {A : Type 0} → A → Option A
found x = Some x

pub some_is : {A : Type 0} (x y : A) → found x ≡ found y → x ≡ y
some_is x y e = cc

pub rest_fits : (bytes front rest : Items ℕ) → IsBytes bytes → bytes ≡ front ++ rest → IsBytes rest
rest_fits bytes front rest fits e = IsBytes-rest front rest (subst IsBytes e fits)

-- the same reader, where what has bytes is said in other words
pub said : {A : Type 0} {item_at : Reader A} {item_bytes : A → Items ℕ} {Fits Said : A → Type 0} → Spells item_at item_bytes Fits → ((x : A) → Fits x → Said x) → ((x : A) → Said x → Fits x) → Spells item_at item_bytes Said
said item to from = record {
  takes = λ bytes x rest fits e. let t = item.takes bytes x rest fits e in (t.0, to x t.1);
  again = λ x rest h. item.again x rest (from x h);
}

-- ---- numbers

abbrev wide_at : Width → Reader ℕ
wide_at w bytes = cond (ltb (length bytes) (byte_len w)) None (Some (from_be_bytes w (take (byte_len w) bytes), drop (byte_len w) bytes))

wide_spells : (w : Width) (limit : ℕ) → IsWide w limit → Spells (wide_at w) (to_be_bytes w) (λ n. n < limit)
wide_spells w limit wide = record {
  takes = λ bytes n rest fits e.
      let g = guard_some (ltb (length bytes) (byte_len w)) (Some (from_be_bytes w (take (byte_len w) bytes), drop (byte_len w) bytes)) (n, rest) e in
      let long : byte_len w ≤ length bytes = ltb-false _ _ g.0 in
      let front : to_be_bytes w (from_be_bytes w (take (byte_len w) bytes)) ≡ take (byte_len w) bytes = wide.back (take (byte_len w) bytes) (omega (arith, length-take (byte_len w) bytes)) (IsBytes-take (byte_len w) bytes fits) in
      subst (λ (p : ℕ × Items ℕ). (bytes ≡ to_be_bytes w p.0 ++ p.1) × (p.0 < limit)) (some_is _ _ g.1)
      (sym (ap (λ xs. xs ++ drop (byte_len w) bytes) front ∙ take-append-drop (byte_len w) bytes), wide.below (take (byte_len w) bytes) (IsBytes-take (byte_len w) bytes fits));
  again = λ n rest lt.
      let long : ltb (length (to_be_bytes w n ++ rest)) (byte_len w) ≡ false = le-ltb _ _ (omega (arith, wide.len n, length-append (to_be_bytes w n) rest)) in
      rw (long, take_at (to_be_bytes w n) rest (byte_len w) (wide.len n), drop_at (to_be_bytes w n) rest (byte_len w) (wide.len n), wide.again n lt) refl;
}

pub number_spells : Spells number_at number_bytes (λ n. n < 2 ^ 32)
unfolding number_at number_bytes
number_spells = wide_spells w32 (2 ^ 32) wide32

pub long_spells : Spells long_at long_bytes (λ n. n < 2 ^ 64)
unfolding long_at long_bytes
long_spells = wide_spells w64 (2 ^ 64) wide64

int_again : (text rest : Items ℕ) (n : ℕ) → length text ≡ 16 → from_be_bytes w128 text ≡ n → cond {A = Option (ℤ × Items ℕ)} (ltb (length (text ++ rest)) 16) None (Some (cast_signed w128 (from_be_bytes w128 (take 16 (text ++ rest))), drop 16 (text ++ rest))) ≡ Some (cast_signed w128 n, rest)
int_again text rest n len is =
    let long : ltb (length (text ++ rest)) 16 ≡ false = le-ltb _ _ (omega (arith, len, length-append text rest)) in
    rw (long, take_at text rest 16 len, drop_at text rest 16 len, is) refl

pub int_spells : Spells int_at int_bytes (λ n. FitsSigned w128 n)
unfolding int_at int_bytes
int_spells = record {
  takes = λ bytes z rest fits e.
      let g = guard_some (ltb (length bytes) 16) (Some (cast_signed w128 (from_be_bytes w128 (take 16 bytes)), drop 16 bytes)) (z, rest) e in
      let n = from_be_bytes w128 (take 16 bytes) in
      let t = (wide_spells w128 (2 ^ 128) wide128).takes bytes n (drop 16 bytes) fits (rw g.0 refl) in
      let same : to_be_bytes w128 (cast_unsigned w128 (cast_signed w128 n)) ≡ to_be_bytes w128 n = ap (to_be_bytes w128) (of_z-to_z w128 n t.1) in
      subst (λ (p : ℤ × Items ℕ). (bytes ≡ to_be_bytes w128 (cast_unsigned w128 p.0) ++ p.1) × FitsSigned w128 p.0) (some_is _ _ g.1)
      (t.0 ∙ ap (λ xs. xs ++ drop 16 bytes) (sym same), sfits_to_z (Fits-of_lt {w = w128} t.1));
  again = λ z rest fits.
      let n = cast_unsigned w128 z in
      let same : from_be_bytes w128 (to_be_bytes w128 n) ≡ n = wide128.again n (Fits-lt-pow {w = w128} (Fits-of_z {w = w128} fits)) in
      int_again (to_be_bytes w128 n) rest n (wide128.len n) same ∙ ap (λ number. Some (number, rest)) (to_z-of_z w128 z fits);
}

-- ---- texts

real_chars : (bytes : Items ℕ) → IsUtf8 bytes → all_scalars (chars bytes) ≡ true
real_chars bytes utf8 = ap (λ bs. all_scalars (chars bs)) (sym utf8.1.1) ∙ ap all_scalars (chars-encodes utf8.0 utf8.1.0) ∙ utf8.1.0

-- bytes behind their count
counted : (bytes : Items ℕ) (count : ℕ) (after front rest text : Items ℕ) → bytes ≡ number_bytes count ++ after → after ≡ front ++ rest → length front ≡ count → text ≡ front → bytes ≡ (number_bytes (length text) ++ text) ++ rest
counted bytes count after front rest text parts more len is = rw (is, len, parts, more) (sym (append_assoc (number_bytes count) front rest))

pub text_spells : Spells text_at text_bytes (λ text. IsShortText text × IsRealText text)
unfolding text_at text_bytes
text_spells = record {
  takes = λ bytes text rest fits e.
      let b = bind_some (number_at bytes) (λ count. cond (ltb (length count.1) count.0) None (cond (is_utf8 (take count.0 count.1)) (Some (chars (take count.0 count.1), drop count.0 count.1)) None)) (text, rest) e in
      let count = b.0.0 in
      let after = b.0.1 in
      let t = number_spells.takes bytes count after fits b.1 in
      let g = guard_some (ltb (length after) count) (cond (is_utf8 (take count after)) (Some (chars (take count after), drop count after)) None) (text, rest) b.2 in
      let long : count ≤ length after = ltb-false _ _ g.0 in
      let len : length (take count after) ≡ count = omega (arith, length-take count after) in
      let h = guard_true (is_utf8 (take count after)) (Some (chars (take count after), drop count after)) (text, rest) g.1 in
      let utf8 : IsUtf8 (take count after) = IsUtf8-from_is_utf8 _ h.0 in
      let back : encode_utf8_all (chars (take count after)) ≡ take count after = encodes-chars (take count after) utf8 in
      let short : length (encode_utf8_all (chars (take count after))) ≡ count = ap length back ∙ len in
      let real : all_scalars (chars (take count after)) ≡ true = real_chars (take count after) utf8 in
      let parts = counted bytes count after (take count after) (drop count after) (encode_utf8_all (chars (take count after))) t.0 (sym (take-append-drop count after)) len back in
      subst (λ (p : Items ℕ × Items ℕ). (bytes ≡ (number_bytes (length (encode_utf8_all p.0)) ++ encode_utf8_all p.0) ++ p.1) × (IsShortText p.0 × IsRealText p.0)) (some_is _ _ h.1)
      (parts, (omega (arith, short, t.1), real));
  again = λ text rest fits.
      let utf8 : IsUtf8 (encode_utf8_all text) = (text, (fits.1, refl)) in
      let good : is_utf8 (encode_utf8_all text) ≡ true = is_utf8-from_IsUtf8 _ utf8 in
      let long : ltb (length (encode_utf8_all text ++ rest)) (length (encode_utf8_all text)) ≡ false = le-ltb _ _ (omega (arith, length-append (encode_utf8_all text) rest)) in
      let regrouped : (number_bytes (length (encode_utf8_all text)) ++ encode_utf8_all text) ++ rest ≡ number_bytes (length (encode_utf8_all text)) ++ (encode_utf8_all text ++ rest) = append_assoc (number_bytes (length (encode_utf8_all text))) (encode_utf8_all text) rest in
      let count = number_spells.again (length (encode_utf8_all text)) (encode_utf8_all text ++ rest) fits.0 in
      rw (regrouped, count, long, take_at (encode_utf8_all text) rest (length (encode_utf8_all text)) refl, drop_at (encode_utf8_all text) rest (length (encode_utf8_all text)) refl, good, chars-encodes text fits.1) refl;
}

-- ---- lists

module _ {A : Type 0} (item_at : Reader A) (item_bytes : A → Items ℕ) (Fits : A → Type 0) (item : Spells item_at item_bytes Fits) where
  items_takes : (count : ℕ) (bytes : Items ℕ) (xs : Items A) (rest : Items ℕ) → IsBytes bytes → items_at item_at count bytes ≡ Some (xs, rest) → (bytes ≡ flat_map item_bytes xs ++ rest) × ((length xs ≡ count) × AllByRecursion Fits xs)
  unfolding items_at
  items_takes zero bytes xs rest fits e = subst (λ (p : Items A × Items ℕ). (bytes ≡ flat_map item_bytes p.0 ++ p.1) × ((length p.0 ≡ 0) × AllByRecursion Fits p.0)) (some_is _ _ e) (refl, (refl, tt))
  items_takes (suc count) bytes xs rest fits e =
      let x = bind_some (item_at bytes) (λ x. items_at item_at count x.1 >>= λ others. Some (x.0 ∷ others.0, others.1)) (xs, rest) e in
      let t = item.takes bytes x.0.0 x.0.1 fits x.1 in
      let y = bind_some (items_at item_at count x.0.1) (λ others. Some (x.0.0 ∷ others.0, others.1)) (xs, rest) x.2 in
      let u = items_takes count x.0.1 y.0.0 y.0.1 (rest_fits bytes _ x.0.1 fits t.0) y.1 in
      let parts : bytes ≡ (item_bytes x.0.0 ++ flat_map item_bytes y.0.0) ++ y.0.1 = t.0 ∙ ap (λ bs. item_bytes x.0.0 ++ bs) u.0 ∙ sym (append_assoc (item_bytes x.0.0) (flat_map item_bytes y.0.0) y.0.1) in
      subst (λ (p : Items A × Items ℕ). (bytes ≡ flat_map item_bytes p.0 ++ p.1) × ((length p.0 ≡ suc count) × AllByRecursion Fits p.0)) (some_is _ _ y.2) (parts, (ap suc u.1.0, (t.1, u.1.1)))

  items_again : (xs : Items A) (rest : Items ℕ) → AllByRecursion Fits xs → items_at item_at (length xs) (flat_map item_bytes xs ++ rest) ≡ Some (xs, rest)
  unfolding items_at
  items_again [] rest fits = refl
  items_again (x ∷ xs) rest fits = rw (append_assoc (item_bytes x) (flat_map item_bytes xs) rest, item.again x (flat_map item_bytes xs ++ rest) fits.0, items_again xs rest fits.1) refl

  counted_spells : (count_at : Reader ℕ) (count_bytes : ℕ → Items ℕ) (limit : ℕ) → Spells count_at count_bytes (λ n. n < limit)
      → Spells (λ bytes. count_at bytes >>= λ count. items_at item_at count.0 count.1) (λ xs. count_bytes (length xs) ++ flat_map item_bytes xs) (λ xs. (length xs < limit) × AllByRecursion Fits xs)
  counted_spells count_at count_bytes limit counts = record {
    takes = λ bytes xs rest fits e.
        let n = bind_some (count_at bytes) (λ count. items_at item_at count.0 count.1) (xs, rest) e in
        let t = counts.takes bytes n.0.0 n.0.1 fits n.1 in
        let u = items_takes n.0.0 n.0.1 xs rest (rest_fits bytes _ n.0.1 fits t.0) n.2 in
        (t.0 ∙ (λ i. count_bytes (sym u.1.0 i) ++ u.0 i) ∙ sym (append_assoc (count_bytes (length xs)) (flat_map item_bytes xs) rest), (omega (arith, u.1.0, t.1), u.1.1));
    again = λ xs rest fits.
        rw (append_assoc (count_bytes (length xs)) (flat_map item_bytes xs) rest, counts.again (length xs) (flat_map item_bytes xs ++ rest) fits.0) (items_again xs rest fits.1);
  }

  pub list_spells : Spells (list_at item_at) (list_bytes item_bytes) (λ xs. (length xs < 2 ^ 32) × AllByRecursion Fits xs)
  unfolding list_at
  list_spells = counted_spells number_at number_bytes (2 ^ 32) number_spells

  pub long_list_spells : Spells (long_list_at item_at) (long_list_bytes item_bytes) (λ xs. (length xs < 2 ^ 64) × AllByRecursion Fits xs)
  unfolding long_list_at
  long_list_spells = counted_spells long_at long_bytes (2 ^ 64) long_spells
