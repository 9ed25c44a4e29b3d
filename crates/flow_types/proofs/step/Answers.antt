use Rattle.std.proofs.Common.{true}
use Rattle.py_tree.specs.PlainStatements.{plain_stmt}
use Rattle.py_tree.specs.Reachability.{goes_on}
use Rattle.py_tree.specs.Flow.{flow, begun}
use Rattle.entity_tables.specs.Views.{plain_tables}
use Rattle.entity_types.specs.Views.{plain_locals}
use Rattle.flow_types.specs.Views.{context_of}
use Rattle.flow_types.proofs.FlowLaws.{steps_of}
use Rattle.flow_types.proofs.step.Goals as goal

pub returns : goal.returns
returns c =
    let old = c.args.env.now in
    steps_of (flow (context_of (plain_tables c.args.tables.now) old true) (begun (plain_locals old.locals)) (plain_stmt c.args.stmt.now)) (goes_on (plain_stmt c.args.stmt.now)) old c.statement.new.env c.statement.new.breaks c.statement.result c.statement.ensures
