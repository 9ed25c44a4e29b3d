use Rattle.std.proofs.Common.{◌≡◌, get_or, arith}
use Rattle.sf_bytes.specs.Gates.{open_gate}
use Rattle.request_log.proofs.Records.{claims_front}
use Rattle.request_log.proofs.reading.front_of.Goals as goal

pub returns-in-165 : goal.returns-in-165
returns-in-165 c =
    let gate : get_or c.args.bytes.now 0 0 ≡ open_gate = omega arith in
    claims_front c.args.bytes.now c.from_be_bytes.result (omega (arith, c.in-165.len_at_least, c.requires)) (λ i. omega (arith, c.type_inv.bytes i)) gate c.from_be_bytes.ensures
