use Rattle.source_meaning.proofs.TransactionLaws.{is_written, written_record}
use Rattle.source_meaning.proofs.transaction.Transaction.into_written.Goals as goal

pub returns-clause-written : goal.returns-clause-written
returns-clause-written c = λ s. is_written c.args.self.changed c.args.at.now c.replace.result c.replace.ensures.value

pub returns-clause-fields : goal.returns-clause-fields
returns-clause-fields c = λ s. written_record s c.args.self.changed c.args.at.now c.replace.result c.replace.ensures.value
