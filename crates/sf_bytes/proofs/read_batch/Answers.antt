use Rattle.std.proofs.Common.{arith}
use Rattle.sf_bytes.specs.ByteForms.{batch_bytes}
use Rattle.sf_bytes.specs.Reading.{batch_at}
use Rattle.sf_bytes.specs.Spelt.{IsReadBatch}
use Rattle.sf_bytes.proofs.Fronts.{shorter, reads}
use Rattle.sf_bytes.proofs.RecordLaws.{batch_spells}
use Rattle.sf_bytes.proofs.read_batch.Goals as goal

pub answer-requires : goal.answer-requires
answer-requires c = shorter batch_at batch_bytes IsReadBatch batch_spells (λ x. (x.0, x.1.now)) c.args.bytes.now (λ i. omega (arith, c.type_inv.bytes i)) c.batch_of.result c.batch_of.ensures

pub returns : goal.returns
returns c = reads batch_at batch_bytes IsReadBatch batch_spells (λ x. (x.0, x.1.now)) c.args.bytes.now (λ i. omega (arith, c.type_inv.bytes i)) c.batch_of.result c.answer.result c.batch_of.ensures c.answer.ensures
