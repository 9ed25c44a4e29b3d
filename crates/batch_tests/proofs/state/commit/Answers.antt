use Rattle.std.proofs.Common.{arith}
use Rattle.reservations.proofs.Lawful.{committed_works}
use Rattle.batch_tests.proofs.state.commit.Goals as goal

pub prepare-requires : goal.prepare-requires
prepare-requires g c =
    let count = c.len.ensures in
    let few = c.if-len-gt-MOST.false in
    committed_works (g.R.CommitRule.choice c.args.rule.now) (g.met.R.CommitRule.lawful c.args.rule.now) c.args.works c.in_ok-choice.choice.committed (omega arith) c.in_ok-choice.ensures.committed

pub apply-requires-clause-places : goal.apply-requires-clause-places
apply-requires-clause-places g c =
    let count = c.len.ensures in
    let few = c.if-len-gt-MOST.false in
    committed_works (g.R.CommitRule.choice c.args.rule.now) (g.met.R.CommitRule.lawful c.args.rule.now) c.args.works c.in_ok-choice.choice.committed (omega arith) c.in_ok-choice.ensures.committed
