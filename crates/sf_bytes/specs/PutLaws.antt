-- Bytes that are put one behind another: into a list, and into a count.
use Rattle.std.proofs.Common.{◌≡◌, ℕ, List, [], ◌++◌, length, sym, ap, ◌∙◌, arith, append-nil, append_assoc, length-append}
use Rattle.sf_bytes.specs.Counting.{CountsOn}

pub list_start : (before : List ℕ) → before ≡ before ++ []
list_start before = sym (append-nil before)

pub list_next : (before mid now first second : List ℕ) → mid ≡ before ++ first → now ≡ mid ++ second → now ≡ before ++ (first ++ second)
list_next before mid now first second one other = other ∙ ap (λ bytes. bytes ++ second) one ∙ append_assoc before first second

pub count_start : (before : ℕ) → CountsOn before before 0
count_start before = omega arith

pub count_next : (before mid now : ℕ) (first second : List ℕ) → CountsOn before mid (length first) → CountsOn mid now (length second) → CountsOn before now (length (first ++ second))
count_next before mid now first second one other = omega (arith, one, other, length-append first second)
