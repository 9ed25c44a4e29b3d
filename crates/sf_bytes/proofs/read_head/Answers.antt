use Rattle.std.proofs.Common.{arith}
use Rattle.sf_bytes.specs.ByteForms.{head_bytes}
use Rattle.sf_bytes.specs.Reading.{head_at}
use Rattle.sf_bytes.specs.Spelt.{IsReadHead}
use Rattle.sf_bytes.proofs.Fronts.{shorter, reads}
use Rattle.sf_bytes.proofs.RecordLaws.{head_spells}
use Rattle.sf_bytes.proofs.read_head.Goals as goal

pub answer-requires : goal.answer-requires
answer-requires c = shorter head_at head_bytes IsReadHead head_spells (λ x. (x.0, x.1.now)) c.args.bytes.now (λ i. omega (arith, c.type_inv.bytes i)) c.head_of.result c.head_of.ensures

pub returns : goal.returns
returns c = reads head_at head_bytes IsReadHead head_spells (λ x. (x.0, x.1.now)) c.args.bytes.now (λ i. omega (arith, c.type_inv.bytes i)) c.head_of.result c.answer.result c.head_of.ensures c.answer.ensures
