use Rattle.std.proofs.Common.{◌≡◌, ◌+◌, ◌-◌, [], length, take, ap, subst, arith, length-take, append-nil}
use Rattle.sf_outside.specs.DiskModel.{SeenWritten, SeenTorn, LeavesOnly}
use Rattle.sf_outside.specs.ImageSteps.{ComesTorn}
use Rattle.sf_outside.proofs.DiskStateLaws.{on_err}
use Rattle.snapshot_store.specs.PageSteps.{PageState, Puts, Stops, begins}
use Rattle.snapshot_store.proofs.PagedWrites.{puts_written, stops_torn}
use Rattle.snapshot_store.proofs.paged.Pages.flush.Goals as goal

pub returns-in_err-write_at-clause-part : goal.returns-in_err-write_at-clause-part
returns-in_err-write_at-clause-part g c =
    let out = c.self.inside in
    let old = g.D.Disk.facts c.args.disk.now in
    let new = g.D.Disk.facts c.write_at.new.self in
    let put = take out.len out.page in
    let a : PageState = record { file = out.file; at = out.at; held = put } in
    let long : length put ≡ out.len = omega (arith, length-take out.len out.page, c.self.invariant.0) in
    let place : out.at - out.len ≡ begins a = omega (arith, long) in
    let moments = subst (λ p. LeavesOnly old new (ComesTorn out.file p (length put) old)) place c.write_at.ensures.moments in
    let torn = subst (λ p. SeenTorn out.file p (length put) old new) place c.in_err-write_at.ensures.err in
    on_err _ _ (subst (λ s. Stops s old new) c.self.view_is (stops_torn a old new put moments torn))

pub returns-clause-all : goal.returns-clause-all
returns-clause-all g c =
    let out = c.self.inside in
    let old = g.D.Disk.facts c.args.disk.now in
    let new = g.D.Disk.facts c.write_at.new.self in
    let put = take out.len out.page in
    let a : PageState = record { file = out.file; at = out.at; held = put } in
    let b : PageState = record { file = out.file; at = out.at; held = [] } in
    let long : length put ≡ out.len = omega (arith, length-take out.len out.page, c.self.invariant.0) in
    let place : out.at - out.len ≡ begins a = omega (arith, long) in
    let moments = subst (λ p. LeavesOnly old new (ComesTorn out.file p (length put) old)) place c.write_at.ensures.moments in
    let seen = subst (λ p. SeenWritten out.file p put old new) place c.in_ok-write_at.ensures.ok in
    let at : b ≡ record a { at = a.at + 0; held = [] } = ap (λ n. record b { at = n }) (omega arith) in
    subst (λ s. Puts s old b new []) c.self.view_is (puts_written a old new put moments b [] at (omega (arith, c.requires, ap (λ (s : PageState). s.at) c.self.view_is)) (append-nil put) seen)
