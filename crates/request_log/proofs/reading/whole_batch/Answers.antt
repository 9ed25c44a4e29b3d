use Rattle.std.proofs.Common.{Ok, subst}
use Rattle.sf_bytes.specs.ByteForms.{batch_bytes}
use Rattle.sf_bytes.specs.Reads.{Reads}
use Rattle.sf_bytes.specs.Spelt.{IsReadBatch}
use Rattle.request_log.proofs.Records.{other_batch}
use Rattle.request_log.proofs.reading.whole_batch.Goals as goal

pub returns-then-count-bytes : goal.returns-then-count-bytes
returns-then-count-bytes c =
    let read = subst (λ found. Reads batch_bytes IsReadBatch c.args.bytes.now (Ok found)) c.in-Some.is c.in_ok-batch.ensures in
    other_batch c.args.bytes.now c.in-Some.batch c.in-Some.count read.0 read.1.1 c.if-count-bytes.true
