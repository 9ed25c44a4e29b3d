use Rattle.std.proofs.Common.{◌≡◌, ◌+◌, ◌++◌, [], length, take, ap, ◌∙◌, subst, arith}
use Rattle.sf_outside.specs.DiskModel.{SeenWritten, SeenTorn, LeavesOnly}
use Rattle.sf_outside.specs.ImageSteps.{ComesTorn}
use Rattle.sf_outside.proofs.DiskStateLaws.{on_err}
use Rattle.snapshot_store.specs.PageSteps.{PageState, Puts, Stops, begins}
use Rattle.snapshot_store.proofs.PagedWrites.{puts_written, stops_torn}
use Rattle.snapshot_store.proofs.paged.Pages.put_flushed.Goals as goal

pub returns-in_err-write_at-clause-part : goal.returns-in_err-write_at-clause-part
returns-in_err-write_at-clause-part g c =
    let out = c.self.inside in
    let bytes = c.args.bytes.now in
    let old = g.D.Disk.facts c.args.disk.now in
    let new = g.D.Disk.facts c.write_at.new.self in
    let a : PageState = record { file = out.file; at = out.at; held = take out.len out.page } in
    let none : length a.held ≡ 0 = ap (λ (s : PageState). length s.held) c.self.view_is ∙ ap length c.requires.none in
    let place : out.at ≡ begins a = omega (arith, none) in
    let moments = subst (λ p. LeavesOnly old new (ComesTorn out.file p (length bytes) old)) place c.write_at.ensures.moments in
    let torn = subst (λ p. SeenTorn out.file p (length bytes) old new) place c.in_err-write_at.ensures.err in
    on_err _ _ (subst (λ s. Stops s old new) c.self.view_is (stops_torn a old new bytes moments torn))

pub returns-clause-all : goal.returns-clause-all
returns-clause-all g c =
    let out = c.self.inside in
    let bytes = c.args.bytes.now in
    let old = g.D.Disk.facts c.args.disk.now in
    let new = g.D.Disk.facts c.write_at.new.self in
    let a : PageState = record { file = out.file; at = out.at; held = take out.len out.page } in
    let b : PageState = record { file = out.file; at = out.at + length bytes; held = take out.len out.page } in
    let empty : a.held ≡ [] = ap (λ (s : PageState). s.held) c.self.view_is ∙ c.requires.none in
    let place : out.at ≡ begins a = omega (arith, ap length empty) in
    let moments = subst (λ p. LeavesOnly old new (ComesTorn out.file p (length bytes) old)) place c.write_at.ensures.moments in
    let seen = subst (λ p. SeenWritten out.file p bytes old new) place c.in_ok-write_at.ensures.ok in
    let at : b ≡ record a { at = a.at + length bytes; held = [] } = ap (λ held. record b { held = held }) empty in
    subst (λ s. Puts s old b new bytes) c.self.view_is
    (puts_written a old new bytes moments b bytes at (omega (arith, c.requires.end, ap (λ (s : PageState). s.at) c.self.view_is)) (ap (λ held. held ++ bytes) empty) seen)
