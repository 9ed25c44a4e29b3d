use Rattle.std.proofs.Common.{arith}
use Rattle.sf_bytes.specs.ByteForms.{outcome_bytes}
use Rattle.sf_bytes.specs.Reading.{outcome_at}
use Rattle.sf_bytes.specs.Spelt.{IsReadOutcome}
use Rattle.sf_bytes.proofs.Fronts.{shorter, reads}
use Rattle.sf_bytes.proofs.RecordLaws.{outcome_spells}
use Rattle.sf_bytes.proofs.read_outcome.Goals as goal

pub answer-requires : goal.answer-requires
answer-requires c = shorter outcome_at outcome_bytes IsReadOutcome outcome_spells (λ x. (x.0, x.1.now)) c.args.bytes.now (λ i. omega (arith, c.type_inv.bytes i)) c.outcome_of.result c.outcome_of.ensures

pub returns : goal.returns
returns c = reads outcome_at outcome_bytes IsReadOutcome outcome_spells (λ x. (x.0, x.1.now)) c.args.bytes.now (λ i. omega (arith, c.type_inv.bytes i)) c.outcome_of.result c.answer.result c.outcome_of.ensures c.answer.ensures
