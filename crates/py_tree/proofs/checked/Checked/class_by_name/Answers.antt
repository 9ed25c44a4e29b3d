use Rattle.std.proofs.Common.{◌≡◌, ◌≤◌, Some, None, ◌∙◌, sym, ap, arith, nat_eq}
use Rattle.std.specs.Option.{option_copied}
use Rattle.indexmap.specs.IndexMap.{get}
use Rattle.py_tree.specs.CheckedViews.{checked_program, checked_names}
use Rattle.py_tree.proofs.IndexLaws.{class_found, class_fits}
use Rattle.py_tree.proofs.checked.Checked.class_by_name.Goals as goal

pub returns-in_err-number : goal.returns-in_err-number
returns-in_err-number c =
    let me = c.args.self.now in
    let none : get nat_eq me.classes c.args.name.0 ≡ None = sym c.get.ensures.value ∙ ap option_copied c.in_err-number.was in
    c.from_residual.ensures ∙ class_found (checked_names me) (checked_program me) me.classes me.has_classes c.args.name.0 None none

pub overflow_cast-result : goal.overflow_cast-result
overflow_cast-result c =
    let me = c.args.self.now in
    let number = c.in_ok-number.number.now in
    let found : get nat_eq me.classes c.args.name.0 ≡ Some number = sym c.get.ensures.value ∙ ap option_copied c.in_ok-number.was in
    let small : number ≤ 255 = class_fits (checked_names me) (checked_program me) me.classes me.has_classes c.args.name.0 number me.rules found in
    omega (arith, small)

pub returns : goal.returns
returns c =
    let me = c.args.self.now in
    let number = c.in_ok-number.number.now in
    let found : get nat_eq me.classes c.args.name.0 ≡ Some number = sym c.get.ensures.value ∙ ap option_copied c.in_ok-number.was in
    class_found (checked_names me) (checked_program me) me.classes me.has_classes c.args.name.0 (Some number) found
