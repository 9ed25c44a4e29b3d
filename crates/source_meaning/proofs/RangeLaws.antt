-- Whether a range has a number left, and that it can be counted on then.
use Rattle.std.proofs.Common.{◌≡◌, zero, suc, ◌-◌, ◌<◌, ℤ, pos, negsuc, ◌+ℤ◌, ◌<ℤ◌, SFits, Bool, true, false, true≢false, not, cond, T, Ok, refl, sym, ap, subst, arith}
use Rattle.std.specs.Int.{w128}
use Rattle.std.specs.Int.Signed.{lt_z, le_z, lt_z_yes, lt_z_no, le_z_yes, clash_ℤ}
use Rattle.std.specs.Ordering.{MatchOrdering, int_cmp, is_lt}
use Rattle.std.specs.declared.cmp.Ordering.{Ordering}
use Rattle.std.specs.declared.cmp.Ordering.TheVariants.{Less, Equal, Greater}
use Rattle.std.specs.Cmp.{int_ranks, int_cmp_is}
use Rattle.std.proofs.Math.Dec.{ltb, nleb→lt}
use Rattle.std.proofs.lemmas.Bool.{lt-ltb}
use Rattle.sf_value.specs.declared.value.Value.TheVariants as value
use Rattle.program_meaning.specs.Operations.{in_range}
use Rattle.source_meaning.proofs.OperationLaws.{in_range_here}

before_by : (a b : ℤ) (t : Bool) → lt_z a b ≡ t → le_z b a ≡ false → is_lt (int_cmp a b) ≡ true
before_by a b true lt h = sym (ap is_lt (int_cmp_is a b Less (lt_z_yes (subst T (sym lt) tt))))
before_by a b false nlt h = absurd (subst T h (lt_z_no {a = a} {b = b} (subst (λ x. T (not x)) (sym nlt) tt)).le)

pub is_before : (a b : ℤ) → le_z b a ≡ false → is_lt (int_cmp a b) ≡ true
is_before a b h = before_by a b (lt_z a b) refl h

ranked_after : (a b : ℤ) (o : Ordering) → MatchOrdering o (a <ℤ b) (a ≡ b) (b <ℤ a) → le_z b a ≡ true → is_lt o ≡ false
ranked_after a b Less ranks le = clash_ℤ ranks (le_z_yes (subst T (sym le) tt))
ranked_after a b Equal ranks le = refl
ranked_after a b Greater ranks le = refl

pub is_after : (a b : ℤ) → le_z b a ≡ true → is_lt (int_cmp a b) ≡ false
is_after a b le = ranked_after a b (int_cmp a b) (int_ranks a b) le

pub next_fits : (a b : ℤ) → SFits w128 a → SFits w128 b → le_z b a ≡ false → SFits w128 (a +ℤ pos 1)
next_fits (pos n) (pos m) fa fb h = let lt : n < m = nleb→lt m n (subst (λ x. T (not x)) (sym h) tt) in omega (arith, fb.sfits)
next_fits (pos n) (negsuc m) fa fb h = absurd (true≢false h)
next_fits (negsuc zero) b fa fb h = omega (arith, fa.sfits)
next_fits (negsuc (suc k)) b fa fb h =
    let on : ltb 1 (suc (suc k)) ≡ true = lt-ltb 1 (suc (suc k)) (omega arith) in
    let less : SFits w128 (negsuc (suc (suc k) - 2)) = omega (arith, fa.sfits) in
    subst (SFits w128) (sym (ap (λ t. cond t (negsuc (suc (suc k) - 2)) (pos (1 - suc (suc k)))) on)) less

-- the next number of a range is an int
pub next_there : (a b : ℤ) → SFits w128 a → SFits w128 b → le_z b a ≡ false → in_range (a +ℤ pos 1) ≡ Ok (value.Int (a +ℤ pos 1))
next_there a b fa fb h = in_range_here (a +ℤ pos 1) (a +ℤ pos 1) (record { sfits = (next_fits a b fa fb h).sfits }) refl
