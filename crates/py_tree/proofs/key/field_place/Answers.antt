use Rattle.std.proofs.Common.{◌+◌, sym, ap, ◌∙◌, arith}
use Rattle.py_tree.specs.ClassViews.{plain_declaration}
use Rattle.py_tree.proofs.KeyLaws.{field_from, field_here, field_on, field_past}
use Rattle.py_tree.proofs.key.field_place.Goals as goal
use Rattle.py_tree.proofs.key.field_place.Goals.{in-Some+else-found-name, in_default}

pub returns-then-found-name : goal.returns-then-found-name
returns-then-found-name c =
    sym (c.loop-stmt.invariant.so_far ∙ field_here c.loop-stmt.place c.loop-stmt.stmt-index c.args.body.now c.args.name.0 c.stmt-item.result c.loop-stmt-test.true c.stmt-item.is (plain_declaration c.in-Some.found) (sym c.in-Some.ensures) c.if-found-name.true)

pub loop-stmt-preserved : goal.loop-stmt-preserved
loop-stmt-preserved c =
    let n = c.loop-stmt.place in
    let i = c.loop-stmt.stmt-index in
    let body = c.args.body.now in
    let name = c.args.name.0 in
    elim c.match-declared_by.branch [
      | in-Some+else-found-name w ↦ record {
        so_far = c.loop-stmt.invariant.so_far ∙ field_on n i body name c.stmt-item.result c.loop-stmt-test.true c.stmt-item.is (plain_declaration w.in-Some.found) (sym w.in-Some.ensures) w.if-found-name.false ∙ ap (λ n. field_from n (i + 1) body name) (sym w.place-is);
        few = omega (arith, w.place-is, c.loop-stmt.invariant.few);
      }
      | in_default w ↦ record {
        so_far = c.loop-stmt.invariant.so_far ∙ field_past n i body name c.stmt-item.result c.loop-stmt-test.true c.stmt-item.is (sym w.in_default.ensures) ∙ ap (λ n. field_from n (i + 1) body name) (sym w.place-is);
        few = omega (arith, w.place-is, c.loop-stmt.invariant.few);
      }
    ]
