-- What the definition makes of code as functions are given it.
use Rattle.std.specs.Prelude.{Bool, List}
use Rattle.flat_tree.specs.declared.tree.FlatArm.{FlatArm}
use Rattle.flat_tree.specs.declared.tree.FlatClause.{FlatClause}
use Rattle.flat_tree.specs.declared.tree.Operand.{Operand}
use Rattle.flat_tree.specs.declared.tree.FlatStmt.{FlatStmt}
use Rattle.flat_tree.specs.declared.tree.FlatTest.{FlatTest}
use Rattle.flat_tree.specs.PlainFlat.{Point, flat_stmts_of, flat_arms_of, flat_clauses_of, operands_of, plain_flat_stmts, plain_flat_arms, plain_flat_clauses, plain_flat_test, plain_operands}
use Rattle.method_splitter.specs.declared.rest.Target as target
use Rattle.method_splitter.specs.declared.rest.Rest as rest
use Rattle.method_splitter.specs.declared.around.Around as around
use Rattle.method_splitter.specs.Split.{Target, Rest, Caught, Numbered, split_arms, split_clauses, split_test, split_each}
use Rattle.method_splitter.specs.Rests.{plain_target, plain_rest, plain_around}
use Rattle.method_splitter.specs.SplitSteps.{body_code, head_code}

abbrev pub arms_split : List FlatArm → around.Around → (join other : rest.Rest) → Numbered Rest
arms_split arms a join other = split_arms (flat_arms_of (plain_flat_arms arms)) (plain_around a) (plain_rest join) (plain_rest other)

abbrev pub test_split : FlatTest → around.Around → (holds fails : target.Target) → Numbered Rest
test_split test a holds fails = split_test (plain_flat_test test) (plain_around a) (plain_target holds) (plain_target fails)

abbrev pub operands_split : Bool → List Operand → around.Around → (holds fails : target.Target) → Numbered Rest
operands_split truth operands a holds fails = split_each truth (operands_of (plain_operands operands)) (plain_around a) (plain_target holds) (plain_target fails)

abbrev pub head_split : FlatTest → Point → around.Around → (fails : target.Target) → Numbered Target
head_split test head a fails = head_code (plain_flat_test test) head (plain_around a) (plain_target fails)

abbrev pub body_split : List FlatStmt → around.Around → (again : target.Target) → Numbered Rest
body_split body a again = body_code (flat_stmts_of (plain_flat_stmts body)) (plain_around a) (plain_target again)

abbrev pub clauses_split : List FlatClause → around.Around → (join : rest.Rest) → Numbered (List Caught)
clauses_split clauses a join = split_clauses (flat_clauses_of (plain_flat_clauses clauses)) (plain_around a) (plain_rest join)
