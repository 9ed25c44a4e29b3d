use Rattle.std.proofs.Common.{◌⊎◌, ◌<◌, ◌^◌, inl, inr, ⊎_elim, length, arith}
use Rattle.sf_outside.specs.declared.store_disk.StoreFile.TheVariants.{Hist}
use Rattle.sf_outside.specs.DiskModel.{Image, IsDurable}
use Rattle.sf_outside.specs.ImageSteps.{ComesBy}
use Rattle.sf_outside.proofs.ImageSteps.{on_ok}
use Rattle.snapshot_store.specs.SlotFile.{slot_of, log_of}
use Rattle.snapshot_store.specs.SlotSteps.{Opens, CheckpointDone, ComesBeside, IsKept}
use Rattle.snapshot_store.proofs.CheckpointSteps.{closing, clearing, adding, filling, opening, closed_stage, cleared_stage, added_stage, filled_stage, opened_now, is_kept, stands, named_still}
use Rattle.snapshot_store.proofs.Epochs.{log_differs, log-history, history-slot, history-log}
use Rattle.snapshot_store.proofs.spelled.checkpoint_of.Goals as goal

pub append_spelled-requires-clause-names : goal.append_spelled-requires-clause-names
append_spelled-requires-clause-names g c =
    let epoch = c.args.epoch in
    let at = c.args.at in
    let more = (g.M.Spelled.bytes_of c.args.more.now.spelled.now) in
    let body = (g.B.Spelled.bytes_of c.args.body.now.spelled.now) in
    let old = g.D.Disk.facts c.args.disk.now in
    let first = g.D.Disk.facts c.close_slot.new.disk in
    let closed = closed_stage epoch at more body old first c.close_slot.ensures.moments c.in_ok-close_slot.ensures.now in
    let second = g.D.Disk.facts c.clear_log.new.disk in
    let cleared = cleared_stage epoch at more body old first second closed c.clear_log.ensures.moments c.in_ok-clear_log.ensures.now in
    named_still epoch at more body old c.requires.next c.requires.names second cleared

-- ---- a call fails

pub returns-in_err-close_slot-clause-moments : goal.returns-in_err-close_slot-clause-moments
returns-in_err-close_slot-clause-moments g c =
    let epoch = c.args.epoch in
    let at = c.args.at in
    let more = (g.M.Spelled.bytes_of c.args.more.now.spelled.now) in
    let body = (g.B.Spelled.bytes_of c.args.body.now.spelled.now) in
    let old = g.D.Disk.facts c.args.disk.now in
    let first = g.D.Disk.facts c.close_slot.new.disk in
    closing epoch at more body old first c.close_slot.ensures.moments

pub returns-in_err-close_slot-clause-stands : goal.returns-in_err-close_slot-clause-stands
returns-in_err-close_slot-clause-stands g c =
    stands c.args.epoch c.args.at (g.M.Spelled.bytes_of c.args.more.now.spelled.now) (g.B.Spelled.bytes_of c.args.body.now.spelled.now) (g.D.Disk.facts c.args.disk.now) c.requires.next c.requires.names (g.D.Disk.facts c.close_slot.new.disk) (returns-in_err-close_slot-clause-moments g c)

pub returns-in_err-clear_log-clause-moments : goal.returns-in_err-clear_log-clause-moments
returns-in_err-clear_log-clause-moments g c =
    let epoch = c.args.epoch in
    let at = c.args.at in
    let more = (g.M.Spelled.bytes_of c.args.more.now.spelled.now) in
    let body = (g.B.Spelled.bytes_of c.args.body.now.spelled.now) in
    let old = g.D.Disk.facts c.args.disk.now in
    let first = g.D.Disk.facts c.close_slot.new.disk in
    let closed = closed_stage epoch at more body old first c.close_slot.ensures.moments c.in_ok-close_slot.ensures.now in
    let second = g.D.Disk.facts c.clear_log.new.disk in
    clearing epoch at more body old first second closed c.clear_log.ensures.moments

pub returns-in_err-clear_log-clause-stands : goal.returns-in_err-clear_log-clause-stands
returns-in_err-clear_log-clause-stands g c =
    stands c.args.epoch c.args.at (g.M.Spelled.bytes_of c.args.more.now.spelled.now) (g.B.Spelled.bytes_of c.args.body.now.spelled.now) (g.D.Disk.facts c.args.disk.now) c.requires.next c.requires.names (g.D.Disk.facts c.clear_log.new.disk) (returns-in_err-clear_log-clause-moments g c)

pub returns-in_err-append_spelled-clause-moments : goal.returns-in_err-append_spelled-clause-moments
returns-in_err-append_spelled-clause-moments g c =
    let epoch = c.args.epoch in
    let at = c.args.at in
    let more = (g.M.Spelled.bytes_of c.args.more.now.spelled.now) in
    let body = (g.B.Spelled.bytes_of c.args.body.now.spelled.now) in
    let old = g.D.Disk.facts c.args.disk.now in
    let first = g.D.Disk.facts c.close_slot.new.disk in
    let closed = closed_stage epoch at more body old first c.close_slot.ensures.moments c.in_ok-close_slot.ensures.now in
    let second = g.D.Disk.facts c.clear_log.new.disk in
    let cleared = cleared_stage epoch at more body old first second closed c.clear_log.ensures.moments c.in_ok-clear_log.ensures.now in
    let third = g.D.Disk.facts c.append_spelled.new.disk in
    adding epoch at more body old second third cleared c.append_spelled.ensures.moments

pub returns-in_err-append_spelled-clause-stands : goal.returns-in_err-append_spelled-clause-stands
returns-in_err-append_spelled-clause-stands g c =
    stands c.args.epoch c.args.at (g.M.Spelled.bytes_of c.args.more.now.spelled.now) (g.B.Spelled.bytes_of c.args.body.now.spelled.now) (g.D.Disk.facts c.args.disk.now) c.requires.next c.requires.names (g.D.Disk.facts c.append_spelled.new.disk) (returns-in_err-append_spelled-clause-moments g c)

pub returns-in_err-fill_spelled-clause-moments : goal.returns-in_err-fill_spelled-clause-moments
returns-in_err-fill_spelled-clause-moments g c =
    let epoch = c.args.epoch in
    let at = c.args.at in
    let more = (g.M.Spelled.bytes_of c.args.more.now.spelled.now) in
    let body = (g.B.Spelled.bytes_of c.args.body.now.spelled.now) in
    let old = g.D.Disk.facts c.args.disk.now in
    let first = g.D.Disk.facts c.close_slot.new.disk in
    let closed = closed_stage epoch at more body old first c.close_slot.ensures.moments c.in_ok-close_slot.ensures.now in
    let second = g.D.Disk.facts c.clear_log.new.disk in
    let cleared = cleared_stage epoch at more body old first second closed c.clear_log.ensures.moments c.in_ok-clear_log.ensures.now in
    let third = g.D.Disk.facts c.append_spelled.new.disk in
    let added = added_stage epoch at more body old second third cleared c.append_spelled.ensures.moments c.in_ok-append_spelled.ensures.now in
    let fourth = g.D.Disk.facts c.fill_spelled.new.disk in
    filling epoch at more body old third fourth added c.fill_spelled.ensures.moments

pub returns-in_err-fill_spelled-clause-stands : goal.returns-in_err-fill_spelled-clause-stands
returns-in_err-fill_spelled-clause-stands g c =
    stands c.args.epoch c.args.at (g.M.Spelled.bytes_of c.args.more.now.spelled.now) (g.B.Spelled.bytes_of c.args.body.now.spelled.now) (g.D.Disk.facts c.args.disk.now) c.requires.next c.requires.names (g.D.Disk.facts c.fill_spelled.new.disk) (returns-in_err-fill_spelled-clause-moments g c)

-- ---- none does

pub returns-clause-moments : goal.returns-clause-moments
returns-clause-moments g c =
    let epoch = c.args.epoch in
    let at = c.args.at in
    let more = (g.M.Spelled.bytes_of c.args.more.now.spelled.now) in
    let body = (g.B.Spelled.bytes_of c.args.body.now.spelled.now) in
    let old = g.D.Disk.facts c.args.disk.now in
    let first = g.D.Disk.facts c.close_slot.new.disk in
    let closed = closed_stage epoch at more body old first c.close_slot.ensures.moments c.in_ok-close_slot.ensures.now in
    let second = g.D.Disk.facts c.clear_log.new.disk in
    let cleared = cleared_stage epoch at more body old first second closed c.clear_log.ensures.moments c.in_ok-clear_log.ensures.now in
    let third = g.D.Disk.facts c.append_spelled.new.disk in
    let added = added_stage epoch at more body old second third cleared c.append_spelled.ensures.moments c.in_ok-append_spelled.ensures.now in
    let fourth = g.D.Disk.facts c.fill_spelled.new.disk in
    let filled = filled_stage epoch at more body old third fourth added c.fill_spelled.ensures.moments c.in_ok-fill_spelled.ensures.now in
    let new = g.D.Disk.facts c.open_slot.new.disk in
    let small : length body < 2 ^ 64 = omega (arith, c.in_ok-fill_spelled.ensures.fits) in
    opening epoch at more body old c.requires.epoch small fourth new filled c.open_slot.ensures.moments

pub returns-clause-stands : goal.returns-clause-stands
returns-clause-stands g c =
    stands c.args.epoch c.args.at (g.M.Spelled.bytes_of c.args.more.now.spelled.now) (g.B.Spelled.bytes_of c.args.body.now.spelled.now) (g.D.Disk.facts c.args.disk.now) c.requires.next c.requires.names (g.D.Disk.facts c.open_slot.new.disk) (returns-clause-moments g c)

pub returns-clause-now : goal.returns-clause-now
returns-clause-now g c =
    let epoch = c.args.epoch in
    let at = c.args.at in
    let more = (g.M.Spelled.bytes_of c.args.more.now.spelled.now) in
    let body = (g.B.Spelled.bytes_of c.args.body.now.spelled.now) in
    let old = g.D.Disk.facts c.args.disk.now in
    let first = g.D.Disk.facts c.close_slot.new.disk in
    let closed = closed_stage epoch at more body old first c.close_slot.ensures.moments c.in_ok-close_slot.ensures.now in
    let second = g.D.Disk.facts c.clear_log.new.disk in
    let cleared = cleared_stage epoch at more body old first second closed c.clear_log.ensures.moments c.in_ok-clear_log.ensures.now in
    let third = g.D.Disk.facts c.append_spelled.new.disk in
    let added = added_stage epoch at more body old second third cleared c.append_spelled.ensures.moments c.in_ok-append_spelled.ensures.now in
    let fourth = g.D.Disk.facts c.fill_spelled.new.disk in
    let filled = filled_stage epoch at more body old third fourth added c.fill_spelled.ensures.moments c.in_ok-fill_spelled.ensures.now in
    let new = g.D.Disk.facts c.open_slot.new.disk in
    let small : length body < 2 ^ 64 = omega (arith, c.in_ok-fill_spelled.ensures.fits) in
    on_ok c.open_slot.result ((image : Image) → new.may_leave image → ComesBy (slot_of epoch) Opens fourth image) ((image : Image) → new.may_leave image → ComesBeside epoch at (CheckpointDone epoch at more body) old image)
    (λ opens image left. opened_now epoch at more body old c.requires.epoch small fourth new filled opens image left) c.open_slot.ensures.now

pub returns-clause-kept : goal.returns-clause-kept
returns-clause-kept g c =
    let epoch = c.args.epoch in
    let at = c.args.at in
    let more = (g.M.Spelled.bytes_of c.args.more.now.spelled.now) in
    let body = (g.B.Spelled.bytes_of c.args.body.now.spelled.now) in
    let old = g.D.Disk.facts c.args.disk.now in
    let first = g.D.Disk.facts c.close_slot.new.disk in
    let closed = closed_stage epoch at more body old first c.close_slot.ensures.moments c.in_ok-close_slot.ensures.now in
    let second = g.D.Disk.facts c.clear_log.new.disk in
    let cleared = cleared_stage epoch at more body old first second closed c.clear_log.ensures.moments c.in_ok-clear_log.ensures.now in
    let third = g.D.Disk.facts c.append_spelled.new.disk in
    let added = added_stage epoch at more body old second third cleared c.append_spelled.ensures.moments c.in_ok-append_spelled.ensures.now in
    let fourth = g.D.Disk.facts c.fill_spelled.new.disk in
    let filled = filled_stage epoch at more body old third fourth added c.fill_spelled.ensures.moments c.in_ok-fill_spelled.ensures.now in
    let new = g.D.Disk.facts c.open_slot.new.disk in
    let small : length body < 2 ^ 64 = omega (arith, c.in_ok-fill_spelled.ensures.fits) in
    on_ok c.open_slot.result ((image : Image) → new.may_leave image → ComesBy (slot_of epoch) Opens fourth image) ((image : Image) → new.may_leave image → IsKept epoch at more body image)
    (λ opens image left. is_kept epoch at more body old c.requires.next image (opened_now epoch at more body old c.requires.epoch small fourth new filled opens image left)) c.open_slot.ensures.now

-- ---- what is safe then

pub returns-clause-log : goal.returns-clause-log
returns-clause-log g c =
    let epoch = c.args.epoch in
    let new = g.D.Disk.facts c.open_slot.new.disk in
    on_ok c.open_slot.result (IsDurable (slot_of epoch) new) (IsDurable (log_of epoch) new)
    (λ done. c.open_slot.ensures.others (log_of epoch) (log_differs epoch) (c.fill_spelled.ensures.others (log_of epoch) (log_differs epoch)
    (c.append_spelled.ensures.others (log_of epoch) (log-history epoch) c.in_ok-clear_log.ensures.durable))) c.open_slot.ensures.durable

pub returns-clause-history : goal.returns-clause-history
returns-clause-history g c =
    let epoch = c.args.epoch in
    let more = (g.M.Spelled.bytes_of c.args.more.now.spelled.now) in
    let old = g.D.Disk.facts c.args.disk.now in
    let new = g.D.Disk.facts c.open_slot.new.disk in
    let so_far = λ (was : IsDurable Hist old). c.clear_log.ensures.others Hist (history-log epoch) (c.close_slot.ensures.others Hist (history-slot epoch) was) in
    on_ok c.open_slot.result (IsDurable (slot_of epoch) new) ((0 < length more) ⊎ IsDurable Hist old → IsDurable Hist new)
    (λ done known. c.open_slot.ensures.others Hist (history-slot epoch) (c.fill_spelled.ensures.others Hist (history-slot epoch)
    (c.in_ok-append_spelled.ensures.durable (⊎_elim (λ some. inl some) (λ was. inr (so_far was)) known)))) c.open_slot.ensures.durable

pub returns-in_err-append_spelled-clause-others : goal.returns-in_err-append_spelled-clause-others
returns-in_err-append_spelled-clause-others g c = λ other slot log hist durable.
    c.append_spelled.ensures.others other hist (c.clear_log.ensures.others other log (c.close_slot.ensures.others other slot durable))

pub returns-in_err-fill_spelled-clause-others : goal.returns-in_err-fill_spelled-clause-others
returns-in_err-fill_spelled-clause-others g c = λ other slot log hist durable.
    c.fill_spelled.ensures.others other slot (c.append_spelled.ensures.others other hist (c.clear_log.ensures.others other log (c.close_slot.ensures.others other slot durable)))

pub returns-clause-others : goal.returns-clause-others
returns-clause-others g c = λ other slot log hist durable.
    c.open_slot.ensures.others other slot (c.fill_spelled.ensures.others other slot
    (c.append_spelled.ensures.others other hist (c.clear_log.ensures.others other log (c.close_slot.ensures.others other slot durable))))
