use Rattle.std.proofs.Common.{[]}
use Rattle.sf_outside.proofs.ImageSteps.{on_ok}
use Rattle.snapshot_store.specs.PageSteps.{Puts, Stops}
use Rattle.snapshot_store.specs.PageLaws.{puts_then, puts_stop}
use Rattle.snapshot_store.proofs.PagedWrites.{err_then}
use Rattle.snapshot_store.proofs.paged.Pages.put_next.Goals as goal

pub returns-clause-all : goal.returns-clause-all
returns-clause-all g c =
    let a = c.args.self.now in
    let b = c.flush.new.self in
    let d = c.put_flushed.new.self in
    let old = g.D.Disk.facts c.args.disk.now in
    let mid = g.D.Disk.facts c.flush.new.disk in
    let new = g.D.Disk.facts c.put_flushed.new.disk in
    on_ok c.put_flushed.result (Puts b mid d new c.args.bytes.now) (Puts a old d new c.args.bytes.now)
    (λ rest. puts_then a old b mid [] c.in_ok-flush.ensures.all d new c.args.bytes.now rest) c.put_flushed.ensures.all

pub returns-clause-part : goal.returns-clause-part
returns-clause-part g c =
    let a = c.args.self.now in
    let b = c.flush.new.self in
    let old = g.D.Disk.facts c.args.disk.now in
    let mid = g.D.Disk.facts c.flush.new.disk in
    let new = g.D.Disk.facts c.put_flushed.new.disk in
    err_then c.put_flushed.result (Stops b mid new) (Stops a old new) (λ stops. puts_stop a old b mid [] c.in_ok-flush.ensures.all new stops) c.put_flushed.ensures.part
