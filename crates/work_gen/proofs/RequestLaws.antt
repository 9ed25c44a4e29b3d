-- Lines behind lines.
use Rattle.std.proofs.Common.{◌≡◌, ℕ, suc, arith, ◌+◌, ◌-◌, ◌<◌, ◌≤◌, true, false, List, ◌++◌, append_assoc, append-nil, Ok, Err, OnOk, sym, ap, ◌∙◌}
use Rattle.std.specs.declared.result.Result.{Result}
use Rattle.std.specs.Prelude.{nat_lt, if◌then◌else◌}
use Rattle.std.proofs.lemmas.Bool.{lt-ltb, le-ltb}
use Rattle.work_gen.specs.Requests as spec

pub on_ok : {T E : Type 0} (r : Result T E) (P Q : Type 0) → (P → Q) → OnOk r P → OnOk r Q
on_ok (Ok x) P Q f p = f p
on_ok (Err e) P Q f p = tt

-- the line of an early request, and that of a later one
pub opens : (number x : ℕ) → number ≤ 200 → (spec.line number x ≡ spec.opening number) × (spec.after number x ≡ x)
opens number x early =
    let is : nat_lt 200 number ≡ false = le-ltb 200 number early in
    (ap (λ b. if b then spec.giving number (spec.transfer x) else spec.opening number) is, ap (λ b. if b then spec.behind x else x) is)

pub gives : (number x : ℕ) → 200 < number → (spec.line number x ≡ spec.giving number (spec.transfer x)) × (spec.after number x ≡ spec.behind x)
gives number x later =
    let is : nat_lt 200 number ≡ true = lt-ltb 200 number later in
    (ap (λ b. if b then spec.giving number (spec.transfer x) else spec.opening number) is, ap (λ b. if b then spec.behind x else x) is)

requests_from : (n number x : ℕ) (left : ℕ) → left ≡ suc n → spec.requests left number x ≡ spec.line number x ++ spec.requests n (number + 1) (spec.after number x)
unfolding spec.requests
requests_from n number x left is = ap (λ k. spec.requests k number x) is

-- one request more
pub request_more : (old new all : List ℕ) (size before x y : ℕ) → before < size → old ++ spec.requests (size - before) (before + 1) x ≡ all → new ≡ old ++ spec.line (before + 1) x → y ≡ spec.after (before + 1) x
    → new ++ spec.requests (size - (before + 1)) (before + 1 + 1) y ≡ all
request_more old new all size before x y within so_far more stands =
    let left : size - before ≡ suc (size - (before + 1)) = omega (arith, within) in
    (λ j. more j ++ spec.requests (size - (before + 1)) (before + 1 + 1) (stands j))
    ∙ append_assoc old (spec.line (before + 1) x) (spec.requests (size - (before + 1)) (before + 1 + 1) (spec.after (before + 1) x))
    ∙ ap (λ rest. old ++ rest) (sym (requests_from (size - (before + 1)) (before + 1) x (size - before) left))
    ∙ so_far

-- none is left
pub no_request : (input : List ℕ) (left number x : ℕ) → left ≡ 0 → input ++ spec.requests left number x ≡ input
unfolding spec.requests
no_request input left number x none = ap (λ k. input ++ spec.requests k number x) none ∙ append-nil input
