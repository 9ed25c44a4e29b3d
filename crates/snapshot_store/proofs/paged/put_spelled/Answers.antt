use Rattle.std.proofs.Common.{◌≡◌, ◌^◌, ◌≤◌, [], sym, ap, subst, arith}
use Rattle.sf_outside.specs.DiskModel.{of_file, with_file, written, KnownStep, SeenWritten, LeavesOnly}
use Rattle.sf_outside.specs.ImageSteps.{ComesBy}
use Rattle.sf_outside.proofs.DiskLaws.{LeavesOnly-and-no_more, IsDurable-no_more}
use Rattle.sf_outside.proofs.ImageSteps.{on_ok_both}
use Rattle.snapshot_store.specs.SlotSteps.{KeepsFront}
use Rattle.snapshot_store.specs.PageSteps.{PageState, Puts, Stops}
use Rattle.snapshot_store.specs.PageLaws.{puts_then, puts_stop}
use Rattle.snapshot_store.proofs.PagedWrites.{all_written}
use Rattle.snapshot_store.proofs.paged.put_spelled.Goals as goal

pub returns-in_err-put-clause-moments : goal.returns-in_err-put-clause-moments
returns-in_err-put-clause-moments g c =
    let a : PageState = record { file = c.args.file; at = c.args.at; held = [] } in
    let old = g.D.Disk.facts c.args.disk.now in
    let new = g.D.Disk.facts c.put.new.on in
    subst (λ p. LeavesOnly old new (ComesBy c.args.file (KeepsFront p) old)) (omega arith)
    ((subst (λ s. Stops s old new) c.new-out.ensures c.in_err-put.ensures.part.0).moments (omega arith))

pub returns-in_err-put-clause-others : goal.returns-in_err-put-clause-others
returns-in_err-put-clause-others g c =
    let old = g.D.Disk.facts c.args.disk.now in
    let new = g.D.Disk.facts c.put.new.on in
    (subst (λ s. Stops s old new) c.new-out.ensures c.in_err-put.ensures.part.0).others

pub returns-in_err-flush-clause-others : goal.returns-in_err-flush-clause-others
returns-in_err-flush-clause-others g c =
    let bytes = g.B.Spelled.bytes_of c.args.body.now in
    let a : PageState = record { file = c.args.file; at = c.args.at; held = [] } in
    let old = g.D.Disk.facts c.args.disk.now in
    let mid = g.D.Disk.facts c.put.new.on in
    let first : Puts a old c.put.new.out mid bytes = subst (λ s. Puts s old c.put.new.out mid bytes) c.new-out.ensures c.in_ok-put.ensures.all.0 in
    (puts_stop a old c.put.new.out mid bytes first (g.D.Disk.facts c.flush.new.disk) c.in_err-flush.ensures.part).others

pub returns-in_err-flush-clause-moments : goal.returns-in_err-flush-clause-moments
returns-in_err-flush-clause-moments g c =
    let bytes = g.B.Spelled.bytes_of c.args.body.now in
    let a : PageState = record { file = c.args.file; at = c.args.at; held = [] } in
    let old = g.D.Disk.facts c.args.disk.now in
    let mid = g.D.Disk.facts c.put.new.on in
    let new = g.D.Disk.facts c.flush.new.disk in
    let first : Puts a old c.put.new.out mid bytes = subst (λ s. Puts s old c.put.new.out mid bytes) c.new-out.ensures c.in_ok-put.ensures.all.0 in
    subst (λ p. LeavesOnly old new (ComesBy c.args.file (KeepsFront p) old)) (omega arith)
    ((puts_stop a old c.put.new.out mid bytes first new c.in_err-flush.ensures.part).moments (omega arith))

pub returns-clause-moments : goal.returns-clause-moments
returns-clause-moments g c =
    let bytes = g.B.Spelled.bytes_of c.args.body.now in
    let a : PageState = record { file = c.args.file; at = c.args.at; held = [] } in
    let old = g.D.Disk.facts c.args.disk.now in
    let mid = g.D.Disk.facts c.put.new.on in
    let third = g.D.Disk.facts c.flush.new.disk in
    let new = g.D.Disk.facts c.sync.new.self in
    let first : Puts a old c.put.new.out mid bytes = subst (λ s. Puts s old c.put.new.out mid bytes) c.new-out.ensures c.in_ok-put.ensures.all.0 in
    let whole = puts_then a old c.put.new.out mid bytes first c.flush.new.self third [] c.in_ok-flush.ensures.all in
    let moments = subst (λ p. LeavesOnly old third (ComesBy c.args.file (KeepsFront p) old)) (omega arith) (whole.moments (omega arith)) in
    LeavesOnly-and-no_more old third new (ComesBy c.args.file (KeepsFront c.args.at) old) moments c.sync.ensures.no_more

pub returns-clause-seen : goal.returns-clause-seen
returns-clause-seen g c =
    let file = c.args.file in
    let bytes = g.B.Spelled.bytes_of c.args.body.now in
    let a : PageState = record { file = file; at = c.args.at; held = [] } in
    let old = g.D.Disk.facts c.args.disk.now in
    let mid = g.D.Disk.facts c.put.new.on in
    let third = g.D.Disk.facts c.flush.new.disk in
    let new = g.D.Disk.facts c.sync.new.self in
    let first : Puts a old c.put.new.out mid bytes = subst (λ s. Puts s old c.put.new.out mid bytes) c.new-out.ensures c.in_ok-put.ensures.all.0 in
    let whole = puts_then a old c.put.new.out mid bytes first c.flush.new.self third [] c.in_ok-flush.ensures.all in
    let within : c.flush.new.self.at ≤ 2 ^ 62 = omega (arith, ap (λ (s : PageState). s.at) c.in_ok-flush.ensures.now, first.place c.requires.end, c.requires.end) in
    let seen = all_written file c.args.at c.flush.new.self old third bytes (ap (λ (s : PageState). s.held) c.in_ok-flush.ensures.now) within whole in
    on_ok_both c.sync.result _ _ (SeenWritten file c.args.at bytes old new)
    (λ durable stays. subst (KnownStep (λ before now. now ≡ with_file file (written (of_file file before) c.args.at bytes) before) old.seen) (sym stays.seen) seen) c.sync.ensures.durable c.sync.ensures.stays

pub returns-clause-others : goal.returns-clause-others
returns-clause-others g c = λ other differs durable.
    let bytes = g.B.Spelled.bytes_of c.args.body.now in
    let a : PageState = record { file = c.args.file; at = c.args.at; held = [] } in
    let old = g.D.Disk.facts c.args.disk.now in
    let mid = g.D.Disk.facts c.put.new.on in
    let third = g.D.Disk.facts c.flush.new.disk in
    let first : Puts a old c.put.new.out mid bytes = subst (λ s. Puts s old c.put.new.out mid bytes) c.new-out.ensures c.in_ok-put.ensures.all.0 in
    let whole = puts_then a old c.put.new.out mid bytes first c.flush.new.self third [] c.in_ok-flush.ensures.all in
    IsDurable-no_more other third (g.D.Disk.facts c.sync.new.self) (whole.others other differs durable) c.sync.ensures.no_more
