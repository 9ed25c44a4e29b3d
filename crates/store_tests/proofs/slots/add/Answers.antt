use Rattle.sf_outside.proofs.DiskLaws.{left_now}
use Rattle.snapshot_store.specs.SlotSteps.{ComesKeeping}
use Rattle.recovery.proofs.StoreSteps.{new_names}
use Rattle.store_tests.proofs.slots.add.Goals as goal

pub append_history-requires : goal.append_history-requires
append_history-requires g c = λ image left. new_names image c.args.at (c.requires image left)

pub returns : goal.returns
returns g c = λ image left.
    let old = g.D.Disk.facts c.args.disk.now in
    let came = left_now old (g.D.Disk.facts c.append_history.new.disk) (ComesKeeping old) c.append_history.ensures.stands image left in
    came.2.is_new (c.requires came.0 came.1)
