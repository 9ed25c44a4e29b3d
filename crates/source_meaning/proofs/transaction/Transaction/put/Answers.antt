use Rattle.indexmap.proofs.MapLemmas.{OnOk-map}
use Rattle.few_entities.specs.Entries.{refs_of}
use Rattle.source_meaning.specs.Transactions.{keys_of}
use Rattle.source_meaning.proofs.TransactionLaws.{world_written}
use Rattle.source_meaning.proofs.transaction.Transaction.put.Goals as goal

pub returns : goal.returns
returns c =
    let t = c.args.self.now in
    λ s. OnOk-map c.put.result _ _ (world_written s (keys_of (refs_of t.read)) t.changed c.put.new.self c.args.at c.args.fields) c.put.ensures.ok
