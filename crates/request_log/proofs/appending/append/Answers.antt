use Rattle.sf_outside.proofs.DiskLaws.{LeavesOnly-weaker}
use Rattle.request_log.proofs.Crashes.{Staged, Either, staged_either, seen_reaches, all_either, all_have}
use Rattle.request_log.proofs.Steps.{seen_record}
use Rattle.request_log.proofs.appending.append.Goals as goal

pub returns-in_err-put_behind_gate-clause-moments : goal.returns-in_err-put_behind_gate-clause-moments
returns-in_err-put_behind_gate-clause-moments g c =
    let old = g.D.Disk.facts c.args.disk.now in
    let mid = g.D.Disk.facts c.put_behind_gate.new.disk in
    let closed = c.requires.closed in
    LeavesOnly-weaker old mid (Staged c.args.file c.args.at old closed) (Either c.args.file c.args.at old closed c.args.body.now) c.put_behind_gate.ensures.moments (staged_either c.args.file c.args.at old closed c.args.body.now)

pub returns-in_err-put_synced-clause-moments : goal.returns-in_err-put_synced-clause-moments
returns-in_err-put_synced-clause-moments g c =
    let old = g.D.Disk.facts c.args.disk.now in
    let mid = g.D.Disk.facts c.put_behind_gate.new.disk in
    let new = g.D.Disk.facts c.put_synced.new.disk in
    let staged = c.in_ok-put_behind_gate.ensures in
    all_either c.args.file c.args.at old c.requires.closed c.args.body.now mid c.put_behind_gate.ensures.moments staged.durable staged.seen new c.requires.short c.put_synced.ensures.moments

pub returns-clause-now : goal.returns-clause-now
returns-clause-now g c =
    let old = g.D.Disk.facts c.args.disk.now in
    let mid = g.D.Disk.facts c.put_behind_gate.new.disk in
    let new = g.D.Disk.facts c.put_synced.new.disk in
    let staged = c.in_ok-put_behind_gate.ensures in
    let opened = c.in_ok-put_synced.ensures in
    all_have c.args.file c.args.at old c.requires.closed c.args.body.now mid c.put_behind_gate.ensures.moments staged.durable staged.seen new c.requires.short c.put_synced.ensures.moments opened.durable opened.seen

pub returns-clause-seen : goal.returns-clause-seen
returns-clause-seen g c =
    let old = g.D.Disk.facts c.args.disk.now in
    let mid = g.D.Disk.facts c.put_behind_gate.new.disk in
    let new = g.D.Disk.facts c.put_synced.new.disk in
    seen_record c.args.file c.args.at c.args.body.now old mid new (seen_reaches c.args.file c.args.at old c.requires.closed) (c.in_ok-put_behind_gate.ensures).seen (c.in_ok-put_synced.ensures).seen

pub returns-clause-moments : goal.returns-clause-moments
returns-clause-moments g c =
    let old = g.D.Disk.facts c.args.disk.now in
    let mid = g.D.Disk.facts c.put_behind_gate.new.disk in
    let new = g.D.Disk.facts c.put_synced.new.disk in
    let staged = c.in_ok-put_behind_gate.ensures in
    all_either c.args.file c.args.at old c.requires.closed c.args.body.now mid c.put_behind_gate.ensures.moments staged.durable staged.seen new c.requires.short c.put_synced.ensures.moments
