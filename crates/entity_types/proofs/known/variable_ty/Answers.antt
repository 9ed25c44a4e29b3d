use Rattle.std.proofs.lemmas.List.{get_or_default}
use Rattle.std.proofs.Common.{◌≡◌, length, get_or, Ok, not, false, arith, sym, ap, ◌∙◌, subst}
use Rattle.py_tree.specs.declared.rule.Rule.TheVariants.{UnknownName, Unassigned}
use Rattle.py_tree.specs.PlainTypes.{plain_ty}
use Rattle.py_tree.specs.FlowEnvironment.{local_of}
use Rattle.py_tree.specs.ExpressionTypes.{type_of_name, needs, refuse_if, read_ty}
use Rattle.entity_types.specs.Answers.{Types}
use Rattle.entity_types.specs.Views.{plain_locals}
use Rattle.entity_types.specs.Scopes.{known_by, plain_scope}
use Rattle.entity_types.proofs.ScopeLaws.{local_stops}
use Rattle.entity_types.proofs.known.variable_ty.Goals as goal

pub returns-then-local-name : goal.returns-then-local-name
unfolding plain_scope type_of_name
returns-then-local-name c =
    let scope = c.args.scope.now in
    let locals = c.as_slice-locals.result.now in
    let known = c.as_slice-not_none.result.now in
    let local = c.index-locals-i.result in
    let i = c.loop-i.i in
    let flag = get_or known i false in
    let as_many : length known ≡ length locals = ap length c.as_slice-not_none.ensures ∙ scope.each ∙ sym (ap length c.as_slice-locals.ensures) in
    let found = c.loop-i.invariant ∙ local_stops locals known c.args.name.0 i local flag c.loop-i-test.true (omega arith) c.index-locals-i.is (get_or_default known i false flag (omega arith)) c.if-local-name.true in
    let known_there = (λ j. local_of (known_by (plain_locals (sym c.as_slice-locals.ensures j)) (sym c.as_slice-not_none.ensures j)) c.args.name.0) ∙ found in
    subst (λ o. Types plain_ty (needs o UnknownName c.args.place (λ l. refuse_if (not l.assigned) Unassigned c.args.place (Ok (read_ty l)))) c.read_local.result) (sym known_there) c.read_local.ensures
