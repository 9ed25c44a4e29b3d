use Rattle.std.proofs.Common.{arith}
use Rattle.sf_bytes.specs.ByteForms.{entry_bytes}
use Rattle.sf_bytes.specs.Reading.{entry_at}
use Rattle.sf_bytes.specs.Spelt.{IsReadEntry}
use Rattle.sf_bytes.proofs.Fronts.{shorter, reads}
use Rattle.sf_bytes.proofs.RecordLaws.{entry_spells}
use Rattle.sf_bytes.proofs.read_entry.Goals as goal

pub answer-requires : goal.answer-requires
answer-requires c = shorter entry_at entry_bytes IsReadEntry entry_spells (λ x. (x.0, x.1.now)) c.args.bytes.now (λ i. omega (arith, c.type_inv.bytes i)) c.entry_of.result c.entry_of.ensures

pub returns : goal.returns
returns c = reads entry_at entry_bytes IsReadEntry entry_spells (λ x. (x.0, x.1.now)) c.args.bytes.now (λ i. omega (arith, c.type_inv.bytes i)) c.entry_of.result c.answer.result c.entry_of.ensures c.answer.ensures
