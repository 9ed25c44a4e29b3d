-- Numbers of four, eight and sixteen bytes.
use Rattle.std.proofs.Common.{◌≡◌, ℕ, suc, ◌+◌, ◌*◌, ◌/◌, ◌%◌, ◌^◌, ◌<◌, List as Items, [], ◌∷◌, ◌++◌, length, get_or, take, drop, refl, sym, ap, ◌∙◌, arith, inl, inr}
use Rattle.std.specs.Int.{Width, w32, w64, w128, byte_len, from_be_bytes, to_be_bytes}
use Rattle.std.proofs.lemmas.Bool.{cases_lt}
use Rattle.std.proofs.lemmas.List.{take-append-drop, length-take, length-drop, get_or-drop, get_or-take, get_or_past}
use Rattle.std.proofs.lemmas.Nat.{be_bytes_4, be_bytes_8, from_be_bytes-to_be_bytes_4, from_be_bytes-to_be_bytes_8}

abbrev pub IsBytes : Items ℕ → Type 0
IsBytes bytes = (i : ℕ) → get_or bytes i 0 < 256

pub IsBytes-rest : (front rest : Items ℕ) → IsBytes (front ++ rest) → IsBytes rest
IsBytes-rest [] rest h = h
IsBytes-rest (b ∷ front) rest h = IsBytes-rest front rest (λ i. h (suc i))

pub IsBytes-drop : (n : ℕ) (bytes : Items ℕ) → IsBytes bytes → IsBytes (drop n bytes)
IsBytes-drop n bytes h i = rw get_or-drop (h (n + i))

pub IsBytes-take : (n : ℕ) (bytes : Items ℕ) → IsBytes bytes → IsBytes (take n bytes)
IsBytes-take n bytes h i =
    elim (cases_lt i n) [
      | inl lt ↦ rw (get_or-take n bytes i 0 lt) (h i)
      | inr le ↦ rw (get_or_past (take n bytes) i 0 (omega (arith, length-take n bytes))) (omega arith)
    ]

-- numbers below the limit and so many bytes are one thing
pub record IsWide (w : Width) (limit : ℕ) : Type 0 where
  pub len : (n : ℕ) → length (to_be_bytes w n) ≡ byte_len w
  pub back : (bytes : Items ℕ) → length bytes ≡ byte_len w → IsBytes bytes → to_be_bytes w (from_be_bytes w bytes) ≡ bytes
  pub again : (n : ℕ) → n < limit → from_be_bytes w (to_be_bytes w n) ≡ n
  pub below : (bytes : Items ℕ) → IsBytes bytes → from_be_bytes w bytes < limit

pub wide32 : IsWide w32 (2 ^ 32)
wide32 = record {
  len = λ n. refl;
  back = λ bytes len fits. be_bytes_4 bytes _ len fits refl;
  again = λ n lt. from_be_bytes-to_be_bytes_4 n lt;
  below = λ bytes fits. omega (arith, fits 0, fits 1, fits 2, fits 3);
}

pub wide64 : IsWide w64 (2 ^ 64)
wide64 = record {
  len = λ n. refl;
  back = λ bytes len fits. be_bytes_8 bytes _ len fits refl;
  again = λ n lt. from_be_bytes-to_be_bytes_8 n lt;
  below = λ bytes fits. omega (arith, fits 0, fits 1, fits 2, fits 3, fits 4, fits 5, fits 6, fits 7);
}

-- ---- sixteen bytes are two halves

abbrev half : ℕ
half = 2 ^ 64

joined : (bytes : Items ℕ) → from_be_bytes w128 bytes ≡ from_be_bytes w64 (take 8 bytes) * half + from_be_bytes w64 (drop 8 bytes)
joined bytes = omega (arith, get_or-take 8 bytes 0 0 (omega arith), get_or-take 8 bytes 1 0 (omega arith), get_or-take 8 bytes 2 0 (omega arith), get_or-take 8 bytes 3 0 (omega arith), get_or-take 8 bytes 4 0 (omega arith), get_or-take 8 bytes 5 0 (omega arith), get_or-take 8 bytes 6 0 (omega arith), get_or-take 8 bytes 7 0 (omega arith), get_or-drop 8 bytes 0 0, get_or-drop 8 bytes 1 0, get_or-drop 8 bytes 2 0, get_or-drop 8 bytes 3 0, get_or-drop 8 bytes 4 0, get_or-drop 8 bytes 5 0, get_or-drop 8 bytes 6 0, get_or-drop 8 bytes 7 0)

parted : (high low : ℕ) → low < half → to_be_bytes w128 (high * half + low) ≡ to_be_bytes w64 high ++ to_be_bytes w64 low
parted high low lt =
    let cell15 : (high * half + low) / 1329227995784915872903807060280344576 % 256 ≡ high / 72057594037927936 % 256 = omega arith in
    let cell14 : (high * half + low) / 5192296858534827628530496329220096 % 256 ≡ high / 281474976710656 % 256 = omega arith in
    let cell13 : (high * half + low) / 20282409603651670423947251286016 % 256 ≡ high / 1099511627776 % 256 = omega arith in
    let cell12 : (high * half + low) / 79228162514264337593543950336 % 256 ≡ high / 4294967296 % 256 = omega arith in
    let cell11 : (high * half + low) / 309485009821345068724781056 % 256 ≡ high / 16777216 % 256 = omega arith in
    let cell10 : (high * half + low) / 1208925819614629174706176 % 256 ≡ high / 65536 % 256 = omega arith in
    let cell9 : (high * half + low) / 4722366482869645213696 % 256 ≡ high / 256 % 256 = omega arith in
    let cell8 : (high * half + low) / 18446744073709551616 % 256 ≡ high % 256 = omega arith in
    let cell7 : (high * half + low) / 72057594037927936 % 256 ≡ low / 72057594037927936 % 256 = omega arith in
    let cell6 : (high * half + low) / 281474976710656 % 256 ≡ low / 281474976710656 % 256 = omega arith in
    let cell5 : (high * half + low) / 1099511627776 % 256 ≡ low / 1099511627776 % 256 = omega arith in
    let cell4 : (high * half + low) / 4294967296 % 256 ≡ low / 4294967296 % 256 = omega arith in
    let cell3 : (high * half + low) / 16777216 % 256 ≡ low / 16777216 % 256 = omega arith in
    let cell2 : (high * half + low) / 65536 % 256 ≡ low / 65536 % 256 = omega arith in
    let cell1 : (high * half + low) / 256 % 256 ≡ low / 256 % 256 = omega arith in
    let cell0 : (high * half + low) % 256 ≡ low % 256 = omega arith in
    λ i. cell15 i ∷ cell14 i ∷ cell13 i ∷ cell12 i ∷ cell11 i ∷ cell10 i ∷ cell9 i ∷ cell8 i ∷ cell7 i ∷ cell6 i ∷ cell5 i ∷ cell4 i ∷ cell3 i ∷ cell2 i ∷ cell1 i ∷ cell0 i ∷ []

again_16 : (n : ℕ) → n < 2 ^ 128 → from_be_bytes w128 (to_be_bytes w128 n) ≡ n
again_16 n lt =
    let high = n / half in
    let low = n % half in
    let short-low : low < half = omega arith in
    let short-high : high < half = omega arith in
    let whole : n ≡ high * half + low = omega arith in
    let first : from_be_bytes w64 (to_be_bytes w64 high) ≡ high = from_be_bytes-to_be_bytes_8 high short-high in
    let second : from_be_bytes w64 (to_be_bytes w64 low) ≡ low = from_be_bytes-to_be_bytes_8 low short-low in
    let parts : to_be_bytes w128 n ≡ to_be_bytes w64 high ++ to_be_bytes w64 low = ap (to_be_bytes w128) whole ∙ parted high low short-low in
    ap (from_be_bytes w128) parts ∙ joined (to_be_bytes w64 high ++ to_be_bytes w64 low) ∙ (λ i. first i * half + second i) ∙ sym whole

back_16 : (bytes : Items ℕ) → length bytes ≡ 16 → IsBytes bytes → to_be_bytes w128 (from_be_bytes w128 bytes) ≡ bytes
back_16 bytes len fits =
    let high = from_be_bytes w64 (take 8 bytes) in
    let low = from_be_bytes w64 (drop 8 bytes) in
    let first : to_be_bytes w64 high ≡ take 8 bytes = be_bytes_8 (take 8 bytes) high (omega (arith, length-take 8 bytes)) (IsBytes-take 8 bytes fits) refl in
    let second : to_be_bytes w64 low ≡ drop 8 bytes = be_bytes_8 (drop 8 bytes) low (omega (arith, length-drop 8 bytes)) (IsBytes-drop 8 bytes fits) refl in
    ap (to_be_bytes w128) (joined bytes) ∙ parted high low (wide64.below (drop 8 bytes) (IsBytes-drop 8 bytes fits)) ∙ (λ i. first i ++ second i) ∙ take-append-drop 8 bytes

below_16 : (bytes : Items ℕ) → IsBytes bytes → from_be_bytes w128 bytes < 2 ^ 128
below_16 bytes fits = omega (arith, joined bytes, wide64.below (take 8 bytes) (IsBytes-take 8 bytes fits), wide64.below (drop 8 bytes) (IsBytes-drop 8 bytes fits))

pub wide128 : IsWide w128 (2 ^ 128)
wide128 = record { len = λ n. refl; back = back_16; again = again_16; below = below_16 }
