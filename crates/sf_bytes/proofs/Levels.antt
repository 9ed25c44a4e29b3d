-- Lists of values by the levels that are left.
use Rattle.std.proofs.Common.{◌≡◌, ℕ, suc, ◌-◌, ◌<◌, List as Items, None, refl, ap, arith}
use Rattle.sf_bytes.specs.Reading.{list_at, value_within, values_within}

pub no_level : (level : ℕ) (bytes : Items ℕ) → level ≡ 0 → values_within level bytes ≡ None
unfolding values_within
no_level level bytes none = rw none refl

pub one_level : (level : ℕ) (bytes : Items ℕ) → 0 < level → values_within level bytes ≡ list_at (value_within (level - 1)) bytes
unfolding values_within
one_level level bytes some =
    let k : level ≡ suc (level - 1) = omega arith in
    ap (λ n. values_within n bytes) k
