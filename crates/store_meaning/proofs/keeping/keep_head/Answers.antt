use Rattle.store_meaning.proofs.KeepingLaws.{needs_names, leaves_checkpoint, keeps_checkpoint}
use Rattle.store_meaning.proofs.keeping.keep_head.Goals as goal

pub checkpoint_of-requires-clause-names : goal.checkpoint_of-requires-clause-names
checkpoint_of-requires-clause-names g c =
    let old = g.D.Disk.facts c.args.disk.now in
    needs_names old old c.args.position (g.M.Spelled.bytes_of c.args.more.now.spelled.now) (g.B.Spelled.bytes_of c.args.body.now.spelled.now) c.requires.some

pub returns-in_err-checkpoint_of-clause-moments : goal.returns-in_err-checkpoint_of-clause-moments
returns-in_err-checkpoint_of-clause-moments g c =
    let old = g.D.Disk.facts c.args.disk.now in
    let new = g.D.Disk.facts c.checkpoint_of.new.disk in
    leaves_checkpoint old new c.args.position (g.M.Spelled.bytes_of c.args.more.now.spelled.now) (g.B.Spelled.bytes_of c.args.body.now.spelled.now) c.checkpoint_of.ensures.stands

pub returns-clause-kept : goal.returns-clause-kept
returns-clause-kept g c =
    let old = g.D.Disk.facts c.args.disk.now in
    let new = g.D.Disk.facts c.checkpoint_of.new.disk in
    keeps_checkpoint old new c.args.position (g.M.Spelled.bytes_of c.args.more.now.spelled.now) (g.B.Spelled.bytes_of c.args.body.now.spelled.now) (c.in_ok-checkpoint_of.ensures).now (c.in_ok-checkpoint_of.ensures).kept

pub returns-clause-moments : goal.returns-clause-moments
returns-clause-moments g c =
    let old = g.D.Disk.facts c.args.disk.now in
    let new = g.D.Disk.facts c.checkpoint_of.new.disk in
    leaves_checkpoint old new c.args.position (g.M.Spelled.bytes_of c.args.more.now.spelled.now) (g.B.Spelled.bytes_of c.args.body.now.spelled.now) c.checkpoint_of.ensures.stands
