use Rattle.std.proofs.Common.{◌∷◌, [], IfSome, subst}
use Rattle.std.specs.Result.{OnOk}
use Rattle.sf_outside.specs.DiskModel.{Image, of_file, LeavesOnly, SeenWritten, IsDurable}
use Rattle.sf_outside.specs.ImageSteps.{ComesBy}
use Rattle.sf_outside.specs.declared.store_disk.StoreFile.{StoreFile}
use Rattle.sf_outside.proofs.DiskLaws.{LeavesNoMore-stays}
use Rattle.sf_outside.proofs.ImageSteps.{on_ok, if_one}
use Rattle.snapshot_store.specs.Answers.{SaysGate}
use Rattle.snapshot_store.specs.SlotFile.{slot_of, IsShutSlot}
use Rattle.snapshot_store.specs.SlotSteps.{StaysOrCloses, Closes}
use Rattle.snapshot_store.proofs.Gates.{then_moments, then_now}
use Rattle.snapshot_store.proofs.checkpoints.close_slot.Goals as goal

pub returns-in-Alone-clause-now : goal.returns-in-Alone-clause-now
returns-in-Alone-clause-now g c =
    let old = g.D.Disk.facts c.args.disk.now in
    let mid = g.D.Disk.facts c.gate_of.new.disk in
    let new = g.D.Disk.facts c.close_gate.new.disk in
    let slot = c.slot_of-slot.result in
    let Now = λ (file : StoreFile). (image : Image) → new.may_leave image → ComesBy file Closes old image in
    let here : OnOk c.close_gate.result (Now slot) =
    on_ok c.close_gate.result ((image : Image) → new.may_leave image → ComesBy slot Closes mid image) (Now slot) (then_now slot old mid (LeavesNoMore-stays old mid c.gate_of.ensures.stays) new) c.close_gate.ensures.now in
    subst (λ file. OnOk c.close_gate.result (Now file)) c.slot_of-slot.ensures here

pub returns-in-Alone-clause-moments : goal.returns-in-Alone-clause-moments
returns-in-Alone-clause-moments g c =
    let old = g.D.Disk.facts c.args.disk.now in
    let mid = g.D.Disk.facts c.gate_of.new.disk in
    let new = g.D.Disk.facts c.close_gate.new.disk in
    subst (λ file. LeavesOnly old new (ComesBy file StaysOrCloses old)) c.slot_of-slot.ensures (then_moments c.slot_of-slot.result old mid (LeavesNoMore-stays old mid c.gate_of.ensures.stays) new c.close_gate.ensures.moments)

pub returns-in-Closed-clause-written : goal.returns-in-Closed-clause-written
returns-in-Closed-clause-written g c =
    let old = g.D.Disk.facts c.args.disk.now in
    let new = g.D.Disk.facts c.sync.new.self in
    let file = slot_of c.args.epoch in
    let read = subst (λ gate. IfSome old.seen (λ now. SaysGate (of_file c.slot_of-slot.result now) gate)) c.in-Closed.is c.in_ok-gate_of.ensures.answer in
    let shut = subst (λ slot. IfSome old.seen (λ now. IsShutSlot (of_file slot now))) c.slot_of-slot.ensures read in
    on_ok c.sync.result (IsDurable c.slot_of-slot.result new) (IfSome old.seen (λ now. (IsShutSlot (of_file file now) → ⊥) → SeenWritten file 0 (0 ∷ []) old new))
    (λ durable. if_one old.seen (λ now. IsShutSlot (of_file file now)) (λ now. (IsShutSlot (of_file file now) → ⊥) → SeenWritten file 0 (0 ∷ []) old new) (λ now is not. absurd (not is)) shut)
    c.sync.ensures.durable
