use Rattle.assigned_locals.proofs.AssignedLocals.{expressions, every_argument, statements}
use Rattle.assigned_locals.proofs.laws.only_assigned_locals_are_read.Goals as goal

pub returns : goal.returns
returns c = record {
  expressions = (expressions, expressions, expressions);
  arguments = (every_argument, every_argument, every_argument);
  statements = (statements, statements, statements);
}
