use Rattle.indexmap.proofs.MapLemmas.{OnOk-map}
use Rattle.source_meaning.specs.Transactions.{with_records, keys_of, entities_of}
use Rattle.source_meaning.proofs.TransactionLaws.{world_read}
use Rattle.source_meaning.proofs.transaction.Transaction.mark_read.Goals as goal

pub returns : goal.returns
returns c =
    let t = c.args.self.now in
    λ s. OnOk-map c.put.result _ _ (world_read (with_records s t.changed) (keys_of (entities_of t.changed)) t.read c.put.new.self c.args.at) c.put.ensures.ok
