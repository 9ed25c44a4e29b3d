use Rattle.std.proofs.Common.{subst}
use Rattle.sf_outside.specs.DiskModel.{Image, SeenWritten, IsDurable}
use Rattle.sf_outside.specs.ImageSteps.{ComesBy}
use Rattle.sf_outside.specs.declared.store_disk.StoreFile.{StoreFile}
use Rattle.sf_outside.proofs.ImageSteps.{on_ok_both}
use Rattle.std.specs.Result.{OnOk}
use Rattle.snapshot_store.specs.SlotFile.{behind_gate}
use Rattle.snapshot_store.specs.SlotSteps.{Fills}
use Rattle.snapshot_store.proofs.Fillings.{filled_now}
use Rattle.snapshot_store.proofs.spelled.fill_spelled.Goals as goal

pub returns-clause-now : goal.returns-clause-now
returns-clause-now g c =
    let old = g.D.Disk.facts c.args.disk.now in
    let new = g.D.Disk.facts c.put_behind_gate.new.disk in
    let body = g.B.Spelled.bytes_of c.args.body.now.spelled.now in
    let Now = λ (slot : StoreFile). (image : Image) → new.may_leave image → ComesBy slot (Fills c.args.epoch body) old image in
    let here : OnOk c.put_behind_gate.result (Now c.slot_of.result) =
    on_ok_both c.put_behind_gate.result (IsDurable c.slot_of.result new) (SeenWritten c.slot_of.result 1 (behind_gate c.args.epoch body) old new) (Now c.slot_of.result)
    (λ durable seen. filled_now c.slot_of.result c.args.epoch body old new c.put_behind_gate.ensures.moments seen durable)
    c.put_behind_gate.ensures.durable c.put_behind_gate.ensures.seen in
    subst (λ slot. OnOk c.put_behind_gate.result (Now slot)) c.slot_of.ensures here
