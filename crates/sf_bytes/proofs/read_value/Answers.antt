use Rattle.std.proofs.Common.{arith}
use Rattle.sf_bytes.specs.ByteForms.{value_bytes}
use Rattle.sf_bytes.specs.Reading.{value_within}
use Rattle.sf_bytes.specs.Spelt.{IsReadValue}
use Rattle.sf_bytes.proofs.Fronts.{shorter, reads}
use Rattle.sf_bytes.proofs.RecordLaws.{read_value_spells}
use Rattle.sf_bytes.proofs.read_value.Goals as goal

pub answer-requires : goal.answer-requires
answer-requires c = shorter (value_within 64) value_bytes IsReadValue read_value_spells (λ x. (x.0, x.1.now)) c.args.bytes.now (λ i. omega (arith, c.type_inv.bytes i)) c.value_of.result c.value_of.ensures

pub returns : goal.returns
returns c = reads (value_within 64) value_bytes IsReadValue read_value_spells (λ x. (x.0, x.1.now)) c.args.bytes.now (λ i. omega (arith, c.type_inv.bytes i)) c.value_of.result c.answer.result c.value_of.ensures c.answer.ensures
