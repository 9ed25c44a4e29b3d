-- The text of a string, byte by byte: what is written so far, and then what is left, is UTF-8.
use Rattle.std.proofs.Common.{◌≡◌, true, ℕ, zero, suc, ◌+◌, ◌-◌, ◌<◌, ◌≤◌, List, [], ◌∷◌, ◌++◌, length, drop, refl, sym, ap, subst, ◌∙◌, arith, append_assoc}
use Rattle.std.specs.Prelude.{◌==◌, if◌then◌else◌, slice_index, IsUtf8, encode_utf8}
use Rattle.std.specs.Char.{IsScalar}
use Rattle.std.proofs.lemmas.Bool.Decides.{nat_tests}
use Rattle.std.proofs.lemmas.List.{drop_more, drop-drop, append-nil, length-append}
use Rattle.std.proofs.Math.Seq.{get_or-append_seam, take-append_seam, drop-append_seam}
use Rattle.std.proofs.lemmas.Str.{IsUtf8-append, IsUtf8-encode, IsUtf8-take, IsUtf8-drop, IsCharBoundary-before_ascii, IsCharBoundary-after_ascii}
use Rattle.py_tree.specs.StringText.{escaped, unescaped}

-- what is taken is passed over
taken : (n : ℕ) (bs : List ℕ) → unescaped n bs ≡ unescaped 0 (drop n bs)
taken zero bs = refl
taken (suc n) [] = refl
taken (suc n) (b ∷ bs) = taken n bs

-- an ASCII byte parts UTF-8 in two
parted : (text rest : List ℕ) (b : ℕ) → IsUtf8 (text ++ b ∷ rest) → b < 128 → IsUtf8 text × IsUtf8 rest
parted text rest b utf8 ascii =
    let whole : List ℕ = text ++ b ∷ rest in
    let len : length whole ≡ length text + length (b ∷ rest) = length-append text (b ∷ rest) in
    let at : slice_index whole (length text) < 128 = subst (λ c. c < 128) (sym (get_or-append_seam text b rest 0)) ascii in
    let within : length text < length whole = omega (arith, len) in
    let front = IsUtf8-take whole (length text) utf8 (IsCharBoundary-before_ascii whole (length text) within at) in
    let back = IsUtf8-drop whole (length text + 1) utf8 (IsCharBoundary-after_ascii whole (length text) utf8 within at) in
    let behind : drop (length text + 1) whole ≡ rest = sym (drop-drop 1 (length text) whole) ∙ ap (drop 1) (drop-append_seam text (b ∷ rest)) in
    (subst IsUtf8 (take-append_seam text (b ∷ rest)) front, subst IsUtf8 behind back)

-- a byte that is written as it is
pub byte_utf8 : (text bytes : List ℕ) (at : ℕ) → at < length bytes → IsUtf8 (text ++ drop at bytes) → IsUtf8 ((text ++ slice_index bytes at ∷ []) ++ drop (at + 1) bytes)
byte_utf8 text bytes at within utf8 = rw append_assoc (subst (λ r. IsUtf8 (text ++ r)) (drop_more bytes at 0 within) utf8)

pub is_ascii : (b : ℕ) → b == 92 ≡ true → b < 128
is_ascii b e = grind (arith, nat_tests)

-- a byte that is left out
pub left_out_utf8 : (text bytes : List ℕ) (at : ℕ) → at < length bytes → slice_index bytes at < 128 → IsUtf8 (text ++ drop at bytes) → IsUtf8 (text ++ drop (at + 1) bytes)
left_out_utf8 text bytes at within ascii utf8 =
    let p = parted text (drop (at + 1) bytes) (slice_index bytes at) (subst (λ r. IsUtf8 (text ++ r)) (drop_more bytes at 0 within) utf8) ascii in
    IsUtf8-append text (drop (at + 1) bytes) p.0 p.1

-- bytes that end with an ASCII one, left out
passed_utf8 : (n : ℕ) (bs : List ℕ) → IsUtf8 bs → n ≤ length bs → (0 < n → slice_index bs (n - 1) < 128) → IsUtf8 (drop n bs)
passed_utf8 zero bs utf8 within ascii = utf8
passed_utf8 (suc n) bs utf8 within ascii =
    let at : suc n - 1 ≡ n = omega arith in
    let next : n + 1 ≡ suc n = omega arith in
    subst (λ k. IsUtf8 (drop k bs)) next (IsUtf8-drop bs (n + 1) utf8 (IsCharBoundary-after_ascii bs n utf8 (omega (arith, within)) (subst (λ k. slice_index bs k < 128) at (ascii (omega arith)))))

-- an escape, in place of which its character is written
pub escaped_utf8 : (text bytes : List ℕ) (at n c : ℕ) → at < length bytes → slice_index bytes at < 128 → IsScalar c → n ≤ length (drop (at + 1) bytes) → (0 < n → slice_index (drop (at + 1) bytes) (n - 1) < 128) → IsUtf8 (text ++ drop at bytes) → IsUtf8 ((text ++ encode_utf8 c) ++ drop (at + 1 + n) bytes)
escaped_utf8 text bytes at n c within ascii scalar fits last utf8 =
    let p = parted text (drop (at + 1) bytes) (slice_index bytes at) (subst (λ r. IsUtf8 (text ++ r)) (drop_more bytes at 0 within) utf8) ascii in
    let rest : IsUtf8 (drop (at + 1 + n) bytes) = subst IsUtf8 (drop-drop n (at + 1) bytes) (passed_utf8 n (drop (at + 1) bytes) p.1 fits last) in
    IsUtf8-append (text ++ encode_utf8 c) (drop (at + 1 + n) bytes) (IsUtf8-append text (encode_utf8 c) p.0 (IsUtf8-encode c scalar)) rest

-- at the end
pub done_utf8 : (text bytes : List ℕ) (at : ℕ) → drop at bytes ≡ [] → IsUtf8 (text ++ drop at bytes) → IsUtf8 text
done_utf8 text bytes at end utf8 = subst IsUtf8 (append-nil text) (subst (λ r. IsUtf8 (text ++ r)) end utf8)

-- the escape is read, and its bytes are passed
escape_read_so : (text made bytes : List ℕ) (at : ℕ) → at < length bytes → slice_index bytes at == 92 ≡ true → made ≡ text ++ encode_utf8 (escaped (drop (at + 1) bytes)).0 → made ++ unescaped 0 (drop (at + 1 + (escaped (drop (at + 1) bytes)).1) bytes) ≡ text ++ unescaped 0 (drop at bytes)
escape_read_so text made bytes at within backslash e =
    let rest : List ℕ = drop (at + 1) bytes in
    let head : unescaped 0 (slice_index bytes at ∷ rest) ≡ encode_utf8 (escaped rest).0 ++ unescaped (escaped rest).1 rest = ap (λ t. if t then encode_utf8 (escaped rest).0 ++ unescaped (escaped rest).1 rest else (if slice_index bytes at == 13 then unescaped 0 rest else slice_index bytes at ∷ unescaped 0 rest)) backslash in
    let passed : unescaped (escaped rest).1 rest ≡ unescaped 0 (drop (at + 1 + (escaped rest).1) bytes) = taken (escaped rest).1 rest ∙ ap (unescaped 0) (drop-drop (escaped rest).1 (at + 1) bytes) in
    let old : unescaped 0 (drop at bytes) ≡ encode_utf8 (escaped rest).0 ++ unescaped 0 (drop (at + 1 + (escaped rest).1) bytes) = ap (unescaped 0) (drop_more bytes at 0 within) ∙ (head ∙ ap (λ r. encode_utf8 (escaped rest).0 ++ r) passed) in
    ap (λ m. m ++ unescaped 0 (drop (at + 1 + (escaped rest).1) bytes)) e ∙ (append_assoc text (encode_utf8 (escaped rest).0) (unescaped 0 (drop (at + 1 + (escaped rest).1) bytes)) ∙ ap (λ r. text ++ r) (sym old))

pub escape_read : (text made bytes : List ℕ) (at : ℕ) (p : ℕ × ℕ) → at < length bytes → slice_index bytes at == 92 ≡ true → p ≡ escaped (drop (at + 1) bytes) → made ≡ text ++ encode_utf8 p.0 → made ++ unescaped 0 (drop (at + 1 + p.1) bytes) ≡ text ++ unescaped 0 (drop at bytes)
escape_read text made bytes at p within backslash is e =
    subst (λ q. made ++ unescaped 0 (drop (at + 1 + q.1) bytes) ≡ text ++ unescaped 0 (drop at bytes)) (sym is) (escape_read_so text made bytes at within backslash (subst (λ q. made ≡ text ++ encode_utf8 q.0) is e))

pub cr_read : (text bytes : List ℕ) (at : ℕ) → at < length bytes → slice_index bytes at ≡ 13 → text ++ unescaped 0 (drop (at + 1) bytes) ≡ text ++ unescaped 0 (drop at bytes)
cr_read text bytes at within e =
    let rest : List ℕ = drop (at + 1) bytes in
    let head : unescaped 0 rest ≡ unescaped 0 (slice_index bytes at ∷ rest) = ap (λ b. unescaped 0 (b ∷ rest)) (sym e) in
    ap (λ r. text ++ r) (head ∙ ap (unescaped 0) (sym (drop_more bytes at 0 within)))

pub ruleset text_rules = (byte_utf8, done_utf8)
