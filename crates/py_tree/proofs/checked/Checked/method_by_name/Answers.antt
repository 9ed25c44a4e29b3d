use Rattle.std.proofs.Common.{◌≡◌, ◌≤◌, Some, None, ◌∙◌, sym, ap, subst, arith, nat_eq}
use Rattle.std.specs.Option.{option_copied}
use Rattle.indexmap.specs.IndexMap.{get}
use Rattle.py_tree.specs.CheckedViews.{checked_program, checked_names}
use Rattle.py_tree.specs.Acceptance.{members_at}
use Rattle.py_tree.specs.ClassIndices.{IsIndex, Keeps}
use Rattle.py_tree.proofs.IndexLaws.{no_method_named, method_found, method_fits, few_in}
use Rattle.py_tree.proofs.checked.Checked.method_by_name.Goals as goal

pub returns-in_err-index : goal.returns-in_err-index
returns-in_err-index c =
    let me = c.args.self.now in
    let members = members_at (checked_program me) c.args.class in
    c.from_residual.ensures ∙ sym (no_method_named (checked_names me) members (subst (Keeps (checked_names me) members) c.in_err-index.was c.index.ensures) c.args.name.0)

pub returns-in_err-number : goal.returns-in_err-number
returns-in_err-number c =
    let me = c.args.self.now in
    let members = members_at (checked_program me) c.args.class in
    let index = c.in_ok-index.index.now in
    let is : IsIndex (checked_names me) members index = subst (Keeps (checked_names me) members) c.in_ok-index.was c.index.ensures in
    let none : get nat_eq index.numbers c.args.name.0 ≡ None = sym c.get.ensures.value ∙ ap option_copied c.in_err-number.was in
    c.from_residual-in_err-number.ensures ∙ method_found (checked_names me) members index is c.args.name.0 None none

pub overflow_cast-result : goal.overflow_cast-result
overflow_cast-result c =
    let me = c.args.self.now in
    let members = members_at (checked_program me) c.args.class in
    let index = c.in_ok-index.index.now in
    let number = c.in_ok-number.number.now in
    let is : IsIndex (checked_names me) members index = subst (Keeps (checked_names me) members) c.in_ok-index.was c.index.ensures in
    let found : get nat_eq index.numbers c.args.name.0 ≡ Some number = sym c.get.ensures.value ∙ ap option_copied c.in_ok-number.was in
    let small : number ≤ 255 = method_fits (checked_names me) members index is c.args.name.0 number (few_in (checked_names me) (checked_program me) c.args.class me.rules) found in
    omega (arith, small)

pub returns : goal.returns
returns c =
    let me = c.args.self.now in
    let members = members_at (checked_program me) c.args.class in
    let index = c.in_ok-index.index.now in
    let number = c.in_ok-number.number.now in
    let is : IsIndex (checked_names me) members index = subst (Keeps (checked_names me) members) c.in_ok-index.was c.index.ensures in
    let found : get nat_eq index.numbers c.args.name.0 ≡ Some number = sym c.get.ensures.value ∙ ap option_copied c.in_ok-number.was in
    method_found (checked_names me) members index is c.args.name.0 (Some number) found
