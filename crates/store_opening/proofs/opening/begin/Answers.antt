use Rattle.store_opening.specs.OpenedStores.{program_for}
use Rattle.store_opening.proofs.Found.{same_left}
use Rattle.store_opening.proofs.opening.begin.Goals as goal

pub returns-in-Err-clause-moments : goal.returns-in-Err-clause-moments
returns-in-Err-clause-moments g c = same_left (program_for c.args.compiled c.args.settings.program) (g.D.Disk.facts c.args.disk.now) c.requires.clean
