use Rattle.std.proofs.Common.{◌≡◌, ap, ◌∙◌, arith}
use Rattle.std.specs.Int.{w64, to_be_bytes, from_be_bytes}
use Rattle.sf_bytes.specs.ByteForms.{long_bytes}
use Rattle.sf_bytes.proofs.Wide.{wide64}
use Rattle.snapshot_store.proofs.front.number_of.Goals as goal

pub returns : goal.returns
unfolding long_bytes
returns c =
    let bytes = c.args.bytes.now in
    let is : c.from_be_bytes.result ≡ from_be_bytes w64 bytes = omega (arith, c.from_be_bytes.ensures) in
    ap (to_be_bytes w64) is ∙ wide64.back bytes c.requires (λ i. omega (arith, c.type_inv.bytes i))
