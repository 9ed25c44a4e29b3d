use Rattle.std.proofs.Common.{map}
use Rattle.py_tree.specs.PlainProgram.{plain_class}
use Rattle.py_tree.specs.ClassViews.{numbers_of}
use Rattle.call_graph.proofs.MethodLaws.{rows_more}
use Rattle.call_graph.proofs.program.members_sites.Goals as goal

pub loop-member-preserved : goal.loop-member-preserved
loop-member-preserved c =
    rows_more (map plain_class c.args.classes.now) (numbers_of c.args.methods.now) c.args.names.now c.args.members.now c.loop-member.member-index c.member-item.result c.loop-member.rows c.add_row.new.rows c.loop-member-test.true c.member-item.is c.loop-member.invariant c.in_ok-add_row.ensures
