use Rattle.std.proofs.Common.{◌≡◌, Some, None, ◌∙◌, sym, ap, subst}
use Rattle.std.specs.Slice.{IsItemAt}
use Rattle.std.specs.Prelude.{slice_get, option_map, option_and_then}
use Rattle.py_tree.specs.PlainProgram.{plain_method}
use Rattle.py_tree.specs.CheckedViews.{checked_program, checked_names}
use Rattle.py_tree.specs.Acceptance.{members_at}
use Rattle.py_tree.specs.ClassIndices.{IsIndex, Keeps}
use Rattle.py_tree.proofs.IndexLaws.{item_got, no_method, method_stands}
use Rattle.py_tree.proofs.checked.Checked.method.Goals as goal

pub returns-in_err-index : goal.returns-in_err-index
returns-in_err-index c =
    let me = c.args.self.now in
    let members = members_at (checked_program me) c.args.class in
    ap (option_map (λ m. plain_method m.now)) c.from_residual.ensures ∙ sym (no_method (checked_names me) members (subst (Keeps (checked_names me) members) c.in_err-index.was c.index.ensures) c.args.number)

pub returns-in_err-place : goal.returns-in_err-place
returns-in_err-place c =
    let me = c.args.self.now in
    let members = members_at (checked_program me) c.args.class in
    let index = c.in_ok-index.index.now in
    let is : IsIndex (checked_names me) members index = subst (Keeps (checked_names me) members) c.in_ok-index.was c.index.ensures in
    let none : slice_get index.methods.items c.args.number ≡ None = item_got index.methods.items c.args.number c.get.result (subst (λ xs. IsItemAt xs c.args.number c.get.result) c.deref.ensures.value c.get.ensures.lookup) ∙ ap (option_map (λ x. x.now)) c.in_err-place.was in
    ap (option_map (λ m. plain_method m.now)) c.from_residual-in_err-place.ensures ∙ ap (option_and_then (slice_get members)) (sym none) ∙ method_stands (checked_names me) members index is c.args.number

pub returns : goal.returns
returns c =
    let me = c.args.self.now in
    let members = members_at (checked_program me) c.args.class in
    let index = c.in_ok-index.index.now in
    let is : IsIndex (checked_names me) members index = subst (Keeps (checked_names me) members) c.in_ok-index.was c.index.ensures in
    let found : slice_get index.methods.items c.args.number ≡ Some c.in_ok-place.place.now = item_got index.methods.items c.args.number c.get.result (subst (λ xs. IsItemAt xs c.args.number c.get.result) c.deref.ensures.value c.get.ensures.lookup) ∙ ap (option_map (λ x. x.now)) c.in_ok-place.was in
    c.member.ensures ∙ ap (option_and_then (slice_get members)) (sym found) ∙ method_stands (checked_names me) members index is c.args.number
