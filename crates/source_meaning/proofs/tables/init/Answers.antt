use Rattle.program_meaning.proofs.SmallLaws.{small_init}
use Rattle.source_meaning.proofs.tables.init.Goals as goal

pub returns-clause-small : goal.returns-clause-small
returns-clause-small c = small_init c.args.program.now c.args.class _ c.init.ensures
