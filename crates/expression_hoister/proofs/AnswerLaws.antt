-- What a call answers, where it is equal to something else too.
use Rattle.std.proofs.Common.{◌≡◌, ℕ, ◌<◌, ◌≤◌, Bool, true, false, Result, Ok, Err, refl, sym, ◌∙◌}
use Rattle.std.proofs.lemmas.Bool.{ltb-true, ltb-false}
use Rattle.std.specs.Prelude.{IfOk, nat_lt}

pub ok_as : {T E X : Type 0} (r : Result T E) (f : T → X) (x y : X) → x ≡ y → IfOk r (λ made. f made ≡ x) → IfOk r (λ made. f made ≡ y)
ok_as (Ok made) f x y same is = is ∙ same
ok_as (Err e) f x y same is = is

-- a test of numbers, by what it is where one is less and where it isn't
pub less_is : (k n : ℕ) (b : Bool) → (k < n → b ≡ true) → (n ≤ k → b ≡ false) → b ≡ nat_lt k n
less_is k n b less more = by (nat_lt k n) refl where
  by : (d : Bool) → nat_lt k n ≡ d → b ≡ nat_lt k n
  by true is = less (ltb-true k n is) ∙ sym is
  by false is = more (ltb-false k n is) ∙ sym is
