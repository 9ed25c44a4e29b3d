-- What is left to run falls from block to block: with a step, or else with the rank.
use Rattle.std.proofs.Common.{◌≡◌, ℕ, zero, suc, arith, ◌+◌, ◌*◌, ◌≤◌, ◌<◌, Bool, true, false, Some, List, [], ◌∷◌, refl, ap, subst}
use Rattle.std.specs.Prelude.{slice_get}
use Rattle.std.proofs.Math.Nat.{suc-mul}
use Rattle.std.proofs.lemmas.Nat.{mul-le}
use Rattle.std.proofs.lemmas.Option.{same_Some, none-some}
use Rattle.program_meaning.specs.declared.vars.Var.{Var}
use Rattle.program_meaning.specs.World.{Goes}
use Rattle.program_meaning.specs.Calls.{Held}
use Rattle.block_code.specs.PlainBlocks.{PlainBlock}
use Rattle.block_runs.proofs.Steps.{Went}

-- more than each rank
abbrev pub above : List PlainBlock → ℕ
above [] = 0
above (b ∷ bs) = suc (b.rank + above bs)

pub rank_below : (bs : List PlainBlock) (k : ℕ) (b : PlainBlock) → slice_get bs k ≡ Some b → b.rank < above bs
rank_below [] k b is = absurd (none-some b is)
rank_below (a ∷ bs) zero b is = let same : a.rank ≡ b.rank = ap (λ (c : PlainBlock). c.rank) (same_Some _ _ is) in omega (arith, same)
rank_below (a ∷ bs) (suc k) b is = let less : b.rank < above bs = rank_below bs k b is in omega (arith, less)

-- what is left falls with the rank, and more with a step
pub lower : (takes : Bool) (top n m p rank next fuel : ℕ) (vars : List Var) (h : Held) → Went takes n (Goes vars h m) → p ≤ m → (takes ≡ false → next < rank) → next < top → n * top + rank < suc fuel → p * top + next < fuel
lower true top n m p rank next fuel vars h went less below under h' =
    let few : suc p ≤ n = omega (arith, went, less) in
    let wide : suc p * top ≤ n * top = mul-le (suc p) top n top few (omega arith) in
    by (p * top) (n * top) (subst (λ k. k ≤ n * top) (suc-mul p top) wide) h'
  where
    by : (a b : ℕ) → a + top ≤ b → b + rank < suc fuel → a + next < fuel
    by a b wide h' = omega (arith, wide, h', under)
lower false top n m p rank next fuel vars h went less below under h' =
    let few : p ≤ n = omega (arith, went, less) in
    let wide : p * top ≤ n * top = mul-le p top n top few (omega arith) in
    let under : next < rank = below refl in
    by (p * top) (n * top) wide under h'
  where
    by : (a b : ℕ) → a ≤ b → next < rank → b + rank < suc fuel → a + next < fuel
    by a b wide under h' = omega (arith, wide, under, h')

pub lower_rank : (top n m rank next fuel : ℕ) → m ≤ n → next < rank → n * top + rank < suc fuel → m * top + next < fuel
lower_rank top n m rank next fuel less under h =
    let wide : m * top ≤ n * top = mul-le m top n top less (omega arith) in
    by (m * top) (n * top) wide h
  where
    by : (a b : ℕ) → a ≤ b → b + rank < suc fuel → a + next < fuel
    by a b wide h = omega (arith, wide, under, h)
