use Rattle.byte_sizes.proofs.Light.{size_by_weight}
use Rattle.byte_sizes.proofs.Small.{small_is_short}
use Rattle.byte_sizes.proofs.sizes_bound_values.Goals as goal

pub returns : goal.returns
returns c = record { by_weight = size_by_weight; short = small_is_short }
