-- How many bytes and lines generated requests have.
use Rattle.std.proofs.Common.{◌≡◌, ℕ, zero, suc, arith, ◌+◌, ◌*◌, ◌%◌, ◌^◌, ◌<◌, ◌≤◌, Bool, true, false, nat_eq, nat_lt, List, [], ◌∷◌, ◌++◌, length}
use Rattle.std.proofs.Common.{decimal, codes, if◌then◌else◌, refl, ap, ◌∙◌}
use Rattle.std.specs.List.{concat}
use Rattle.std.proofs.lemmas.Bool.{ne_eqb}
use Rattle.std.proofs.lemmas.List.{length-append}
use Rattle.std.proofs.lemmas.Fmt.{decimal_by_steps, length-decimal-le}
use Rattle.work_gen.specs.Requests as work

-- how many line ends stand in bytes

abbrev end_in : ℕ → ℕ
end_in b = if nat_eq b 10 then 1 else 0

abbrev pub line_ends : List ℕ → ℕ
line_ends [] = 0
line_ends (b ∷ bs) = end_in b + line_ends bs

pub ends-append : (xs ys : List ℕ) → line_ends (xs ++ ys) ≡ line_ends xs + line_ends ys
ends-append [] ys = omega arith
ends-append (x ∷ xs) ys = omega (arith, ends-append xs ys)

-- Pieces

abbrev summed : (List ℕ → ℕ) → List (List ℕ) → ℕ
summed f [] = 0
summed f (x ∷ xs) = f x + summed f xs

ends-concat : (pieces : List (List ℕ)) → line_ends (concat pieces) ≡ summed line_ends pieces
ends-concat [] = refl
ends-concat (x ∷ xs) = ends-append x (concat xs) ∙ ap (λ n. line_ends x + n) (ends-concat xs)

length-concat : (pieces : List (List ℕ)) → length (concat pieces) ≡ summed length pieces
length-concat [] = refl
length-concat (x ∷ xs) = length-append x (concat xs) ∙ ap (λ n. length x + n) (length-concat xs)

-- Digits

no_end_in : (n : ℕ) → end_in (48 + n) ≡ 0
no_end_in n = ap (λ b. if b then 1 else 0) (ne_eqb (48 + n) 10 (λ same. omega (arith, same)))

no_ends : (n : ℕ) → n < 2 ^ 64 → line_ends (decimal n) ≡ 0
no_ends = decimal_by_steps (λ n ds. line_ends ds ≡ 0) one more
  where
    one : (n : ℕ) → n < 10 → line_ends ((48 + n) ∷ []) ≡ 0
    one n small = omega (arith, no_end_in n)

    more : (n : ℕ) (ds : List ℕ) → 10 ≤ n → line_ends ds ≡ 0 → line_ends (ds ++ ((48 + n % 10) ∷ [])) ≡ 0
    more n ds large none = omega (arith, ends-append ds ((48 + n % 10) ∷ []), no_end_in (n % 10))

few_digits : (n : ℕ) → n < 2 ^ 64 → length (decimal n) ≤ 20
few_digits n small = length-decimal-le 20 n (omega arith) (omega arith) small

-- Lines

pub record IsShort (bytes : List ℕ) (most ends : ℕ) : Type 0 where
  pub few : length bytes ≤ most
  pub counted : line_ends bytes ≡ ends

opening_short : (n : ℕ) → n < 2 ^ 64 → IsShort (work.opening n) 200 1
opening_short n small =
    let pieces : List (List ℕ) =
    codes "{\"id\":\"g" ∷ decimal n ∷ codes "\",\"class\":\"Account\",\"new\":[\"a" ∷ decimal n ∷ codes "\",100]}\n" ∷ [] in
    record { few = omega (arith, length-concat pieces, few_digits n small); counted = omega (arith, ends-concat pieces, no_ends n small) }

giving_short : (n from amount to : ℕ) → n < 2 ^ 64 → from < 2 ^ 64 → amount < 2 ^ 64 → to < 2 ^ 64
    → IsShort (work.giving_line (decimal n) (decimal from) (decimal amount) (decimal to)) 200 1
giving_short n from amount to n_small from_small amount_small to_small =
    let pieces : List (List ℕ) =
    codes "{\"id\":\"g" ∷ decimal n ∷ codes "\",\"class\":\"Account\",\"key\":\"a" ∷ decimal from ∷ codes "\",\"method\":\"give\",\"args\":[" ∷ decimal amount
    ∷ codes ",\"a" ∷ decimal to ∷ codes "\"]}\n" ∷ [] in
    record {
      few = omega (arith, length-concat pieces, few_digits n n_small, few_digits from from_small, few_digits amount amount_small, few_digits to to_small);
      counted = omega (arith, ends-concat pieces, no_ends n n_small, no_ends from from_small, no_ends amount amount_small, no_ends to to_small);
    }

line_short : (n x : ℕ) → n < 2 ^ 64 → IsShort (work.line n x) 200 1
line_short n x small = by (nat_lt 200 n)
  where
    by : (later : Bool) → IsShort (if later then work.giving n (work.transfer x) else work.opening n) 200 1
    by true = giving_short n (work.transfer x).from (work.transfer x).amount (work.transfer x).to small (omega arith) (omega arith) (omega arith)
    by false = opening_short n small

-- so many requests have as many line ends, and each has at most 200 bytes
pub requests_short : (size n x : ℕ) → n + size < 2 ^ 64 → IsShort (work.requests size n x) (200 * size) size
unfolding work.requests
requests_short zero n x small = record { few = omega arith; counted = refl }
requests_short (suc size) n x small =
    let first = line_short n x (omega arith) in
    let more = requests_short size (n + 1) (work.after n x) (omega arith) in
    record {
      few = omega (arith, length-append (work.line n x) (work.requests size (n + 1) (work.after n x)), first.few, more.few);
      counted = omega (arith, ends-append (work.line n x) (work.requests size (n + 1) (work.after n x)), first.counted, more.counted);
    }
