use Rattle.sf_outside.proofs.ImageSteps.{on_ok}
use Rattle.snapshot_store.specs.PageSteps.{Puts, Stops, CountsStay, CountsRise}
use Rattle.snapshot_store.proofs.PagedWrites.{err_both}
use Rattle.snapshot_store.proofs.paged.PagesOut.put.Goals as goal

pub returns-clause-all : goal.returns-clause-all
returns-clause-all g c =
    let D = g.D.Disk in
    let old = c.args.disk.now in
    let new = c.put_next.new.disk in
    let said = c.put_next.ensures in
    on_ok c.put_next.result (Puts c.args.self.now (D.facts old) c.put_next.new.self (D.facts new) c.args.bytes.now)
    (Puts c.args.self.now (D.facts old) c.put_next.new.self (D.facts new) c.args.bytes.now × CountsStay (D.faults old) (D.mounts old) (D.faults new) (D.mounts new))
    (λ puts. (puts, record { later = said.cause.later; mounts = said.mounts })) said.all

pub returns-clause-part : goal.returns-clause-part
returns-clause-part g c =
    let D = g.D.Disk in
    let old = c.args.disk.now in
    let new = c.put_next.new.disk in
    let said = c.put_next.ensures in
    err_both c.put_next.result _ _ (Stops c.args.self.now (D.facts old) (D.facts new) × CountsRise (D.faults old) (D.mounts old) (D.faults new) (D.mounts new))
    (λ stops rose. (stops, record { later = said.cause.later; rose = rose; mounts = said.mounts })) said.part said.cause.failed
