use Rattle.std.proofs.Common.{arith}
use Rattle.sf_bytes.specs.ByteForms.{request_bytes}
use Rattle.sf_bytes.specs.Reading.{request_at}
use Rattle.sf_bytes.specs.Spelt.{IsReadRequest}
use Rattle.sf_bytes.proofs.Fronts.{shorter, reads}
use Rattle.sf_bytes.proofs.RecordLaws.{request_spells}
use Rattle.sf_bytes.proofs.read_request.Goals as goal

pub answer-requires : goal.answer-requires
answer-requires c = shorter request_at request_bytes IsReadRequest request_spells (λ x. (x.0, x.1.now)) c.args.bytes.now (λ i. omega (arith, c.type_inv.bytes i)) c.request_of.result c.request_of.ensures

pub returns : goal.returns
returns c = reads request_at request_bytes IsReadRequest request_spells (λ x. (x.0, x.1.now)) c.args.bytes.now (λ i. omega (arith, c.type_inv.bytes i)) c.request_of.result c.answer.result c.request_of.ensures c.answer.ensures
