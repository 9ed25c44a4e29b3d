use Rattle.store_meaning.proofs.KeepingLaws.{needs_closed, leaves_batch, keeps_batch}
use Rattle.store_meaning.proofs.keeping.log_batch.Goals as goal

pub append-requires-clause-closed : goal.append-requires-clause-closed
append-requires-clause-closed g c =
    let old = g.D.Disk.facts c.args.disk.now in
    needs_closed old old c.args.position c.args.body.now c.requires.began c.log_of.result c.log_of.ensures c.requires.some

pub returns-in_err-at-clause-moments : goal.returns-in_err-at-clause-moments
returns-in_err-at-clause-moments g c =
    let old = g.D.Disk.facts c.args.disk.now in
    let new = g.D.Disk.facts c.append.new.disk in
    leaves_batch old new c.args.position c.args.body.now c.requires.began c.log_of.result c.log_of.ensures c.append.ensures.moments

pub returns-clause-kept : goal.returns-clause-kept
returns-clause-kept g c =
    let old = g.D.Disk.facts c.args.disk.now in
    let new = g.D.Disk.facts c.append.new.disk in
    keeps_batch old new c.args.position c.args.body.now c.requires.began c.log_of.result c.log_of.ensures (c.in_ok-at.ensures).now

pub returns-clause-moments : goal.returns-clause-moments
returns-clause-moments g c =
    let old = g.D.Disk.facts c.args.disk.now in
    let new = g.D.Disk.facts c.append.new.disk in
    leaves_batch old new c.args.position c.args.body.now c.requires.began c.log_of.result c.log_of.ensures c.append.ensures.moments
