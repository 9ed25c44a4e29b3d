use Rattle.sf_outside.specs.declared.store_disk.StoreFile.TheVariants.{Hist}
use Rattle.sf_outside.specs.DiskModel.{Image, SeenWritten, IsDurable}
use Rattle.sf_outside.specs.ImageSteps.{ComesBy}
use Rattle.sf_outside.proofs.ImageSteps.{on_ok_both}
use Rattle.snapshot_store.specs.SlotSteps.{AddsBehind}
use Rattle.snapshot_store.proofs.CheckpointSteps.{stands_beside}
use Rattle.snapshot_store.proofs.Histories.{added_now}
use Rattle.snapshot_store.proofs.spelled.append_spelled.Goals as goal

pub returns-clause-now : goal.returns-clause-now
returns-clause-now g c =
    let at = c.args.at in
    let more = g.M.Spelled.bytes_of c.args.more.now.spelled.now in
    let old = g.D.Disk.facts c.args.disk.now in
    let new = g.D.Disk.facts c.put_spelled.new.disk in
    on_ok_both c.put_spelled.result (IsDurable Hist new) (SeenWritten Hist at more old new) ((image : Image) → new.may_leave image → ComesBy Hist (AddsBehind at more) old image)
    (λ durable seen. added_now at more old new c.put_spelled.ensures.moments seen durable)
    c.put_spelled.ensures.durable c.put_spelled.ensures.seen

pub returns-clause-stands : goal.returns-clause-stands
returns-clause-stands g c =
    stands_beside c.args.at (g.D.Disk.facts c.args.disk.now) c.requires.names (g.D.Disk.facts c.put_spelled.new.disk) c.put_spelled.ensures.moments
