-- The order of spots.
use Rattle.std.specs.Cmp.{IsTotalOrder, nat_cmp_total, then_total, on_total}
use Rattle.std.specs.FinMap.{IsAntisymmetric}
use Rattle.std.specs.Ordering.{nat_cmp}
use Rattle.std.proofs.lemmas.Map.Lookups.{exact_pairs, exact_unsigned}
use Rattle.sf_value.specs.Keys.{key_cmp}
use Rattle.sf_value.specs.Spots.{Spot, spot_cmp}
use Rattle.sf_value.proofs.Maps.{key_total, key_exact}

pub spot_total : IsTotalOrder spot_cmp
spot_total = then_total (on_total (λ (x : Spot). x.0) key_total) (on_total (λ (x : Spot). x.1) nat_cmp_total)

-- spots that tie are one
pub spot_exact : IsAntisymmetric spot_cmp
spot_exact = exact_pairs key_cmp nat_cmp key_exact exact_unsigned
