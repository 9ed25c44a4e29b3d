use Rattle.live_vars.proofs.TargetRules.{field_read, self_read, local_read}
use Rattle.live_vars.proofs.paths.target_reads.Goals as goal

pub returns-then-x-ne0 : goal.returns-then-x-ne0
returns-then-x-ne0 c at = local_read c.args.name.0 c.args.target at c.in-Local.x c.in-Local.is c.if-x-ne0.true

pub returns-else-x-ne0 : goal.returns-else-x-ne0
returns-else-x-ne0 c at = self_read c.args.name.0 c.args.target at c.in-Local.x c.in-Local.is c.if-x-ne0.false

pub returns-in-Field : goal.returns-in-Field
returns-in-Field c at = field_read c.args.name.0 c.args.target at c.in-Field.field-0 c.in-Field.is
