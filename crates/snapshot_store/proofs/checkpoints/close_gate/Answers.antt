use Rattle.std.proofs.Common.{◌∷◌, [], refl}
use Rattle.sf_outside.specs.DiskModel.{Image, SeenWritten, IsDurable}
use Rattle.sf_outside.specs.ImageSteps.{ComesBy}
use Rattle.sf_outside.proofs.ImageSteps.{on_ok_both}
use Rattle.snapshot_store.specs.SlotSteps.{Closes}
use Rattle.snapshot_store.proofs.Gates.{gate_closes, quiet_moments, close_moments, then_now}
use Rattle.snapshot_store.proofs.checkpoints.close_gate.Goals as goal

pub returns-in_err-sync-clause-moments : goal.returns-in_err-sync-clause-moments
returns-in_err-sync-clause-moments g c = quiet_moments c.args.slot (g.D.Disk.facts c.args.disk.now) (g.D.Disk.facts c.sync.new.self) c.sync.ensures.no_more

pub returns-clause-now : goal.returns-clause-now
returns-clause-now g c =
    let old = g.D.Disk.facts c.args.disk.now in
    let mid = g.D.Disk.facts c.sync.new.self in
    let new = g.D.Disk.facts c.put_synced.new.disk in
    let slot = c.args.slot in
    on_ok_both c.put_synced.result (IsDurable slot new) (SeenWritten slot 0 (0 ∷ []) mid new) ((image : Image) → new.may_leave image → ComesBy slot Closes old image)
    (λ durable seen. then_now slot old mid c.sync.ensures.no_more new (λ image left. gate_closes slot mid new c.put_synced.ensures.moments 0 seen durable image left refl))
    c.put_synced.ensures.durable c.put_synced.ensures.seen

pub returns-clause-moments : goal.returns-clause-moments
returns-clause-moments g c =
    close_moments c.args.slot (g.D.Disk.facts c.args.disk.now) (g.D.Disk.facts c.sync.new.self) c.in_ok-sync.ensures.stays c.in_ok-sync.ensures.durable (g.D.Disk.facts c.put_synced.new.disk) c.requires c.put_synced.ensures.moments
