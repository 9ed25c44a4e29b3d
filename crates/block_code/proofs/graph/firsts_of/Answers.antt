use Rattle.std.proofs.Common.{◌≤◌, ◌*◌, ◌∙◌, sym, arith, length, subst}
use Rattle.block_code.proofs.GraphLaws.{first_more, first_none}
use Rattle.block_code.proofs.graph.firsts_of.Goals as goal

pub loop-table-preserved : goal.loop-table-preserved
loop-table-preserved c =
    let few : length c.table-item.result.methods ≤ 256 = subst (λ t. length t.methods ≤ 256) (sym c.table-item.is) (c.requires.few_methods c.loop-table.table-index c.table-item.result c.loop-table-test.true) in
    let before : c.loop-table.place ≤ 256 * c.loop-table.table-index = c.loop-table.invariant.1 in
    (first_more c.args.tables.now c.loop-table.table-index c.table-item.result c.loop-table.place c.len.result c.loop-table.firsts c.push.new.self _ c.loop-table-test.true c.table-item.is c.len.ensures c.loop-table.invariant.0 c.in_ok-push.ensures.ok, omega (arith, few, before, c.len.ensures))

pub returns : goal.returns
returns c = sym (first_none c.args.tables.now c.loop-table.table-index c.loop-table.place c.loop-table.firsts c.loop-table-test.false) ∙ c.loop-table.invariant.0
