use Rattle.program_meaning.proofs.SmallLaws.{small_method}
use Rattle.source_meaning.proofs.tables.method_at.Goals as goal

pub returns-clause-small : goal.returns-clause-small
returns-clause-small c = small_method c.args.program.now c.args.class _ c.args.number c.method.ensures
