use Rattle.store_opening.proofs.Found.{as_found}
use Rattle.store_opening.proofs.finding.find_mounted.Goals as goal

pub returns-in-Ok-clause-moments : goal.returns-in-Ok-clause-moments
returns-in-Ok-clause-moments g c = as_found (g.D.Disk.facts c.args.disk.now) (g.D.Disk.facts c.reopen.new.disk) c.requires.clean c.reopen.ensures.no_more

pub returns-in-Err-clause-moments : goal.returns-in-Err-clause-moments
returns-in-Err-clause-moments g c = as_found (g.D.Disk.facts c.args.disk.now) (g.D.Disk.facts c.reopen.new.disk) c.requires.clean c.reopen.ensures.no_more
