use Rattle.std.proofs.Common.{◌≡◌, Some, None, map, sym, ap, ◌∙◌, arith}
use Rattle.py_tree.specs.PlainProgram.{plain_class, plain_method, plain_params}
use Rattle.py_tree.specs.PlainStatements.{plain_stmts}
use Rattle.py_tree.specs.ClassRules.{init_of, key_method, key_of, methods_of, sig_of, sig_params, fields_of}
use Rattle.py_tree.specs.ClassViews.{plain_key}
use Rattle.entity_tables.proofs.WholeLaws.{no_key_method, no_key, has_key, table_is, same_table, small_key}
use Rattle.entity_tables.proofs.class.class_table.Goals as goal

pub returns-in_default-find_key : goal.returns-in_default-find_key
returns-in_default-find_key c =
    let class = plain_class c.args.class.now in
    let init : init_of c.args.names.now class.members ≡ Some (plain_method c.in-Some.init.now) = ap (λ ms. init_of c.args.names.now (map plain_method ms)) (sym c.as_slice-members.ensures) ∙ sym c.in-Some.ensures in
    let none : key_method c.args.names.now class.members ≡ None = ap (λ ms. key_method c.args.names.now (map plain_method ms)) (sym c.as_slice-members.ensures) ∙ sym c.in_default-find_key.ensures in
    rw c.fault-in_default-find_key.ensures (no_key_method c.args.names.now class (plain_method c.in-Some.init.now) init none)

pub returns-in_default-key_of : goal.returns-in_default-key_of
returns-in_default-key_of c =
    let class = plain_class c.args.class.now in
    let names = c.args.names.now in
    let init : init_of names class.members ≡ Some (plain_method c.in-Some.init.now) = ap (λ ms. init_of names (map plain_method ms)) (sym c.as_slice-members.ensures) ∙ sym c.in-Some.ensures in
    let key : key_method names class.members ≡ Some (plain_method c.in-Some-find_key.method.now) = ap (λ ms. key_method names (map plain_method ms)) (sym c.as_slice-members.ensures) ∙ sym c.in-Some-find_key.ensures in
    let none : key_of names class.members ≡ None = ap (λ ms. key_of names (map plain_method ms)) (sym c.as_slice-members.ensures) ∙ sym c.in_default-key_of.ensures in
    rw c.fault-in_default-key_of.ensures (no_key names class (plain_method c.in-Some.init.now) (plain_method c.in-Some-find_key.method.now) init key none)

pub overflow_cast-result : goal.overflow_cast-result
overflow_cast-result c =
    let class = plain_class c.args.class.now in
    let some : key_of c.args.names.now class.members ≡ Some (plain_key c.in-Some-key_of.key) = ap (λ ms. key_of c.args.names.now (map plain_method ms)) (sym c.as_slice-members.ensures) ∙ sym c.in-Some-key_of.ensures in
    let small = small_key c.args.names.now class.members (plain_key c.in-Some-key_of.key) c.requires some in
    omega (arith, small.0)

pub overflow_cast-result-2 : goal.overflow_cast-result-2
overflow_cast-result-2 c =
    let class = plain_class c.args.class.now in
    let some : key_of c.args.names.now class.members ≡ Some (plain_key c.in-Some-key_of.key) = ap (λ ms. key_of c.args.names.now (map plain_method ms)) (sym c.as_slice-members.ensures) ∙ sym c.in-Some-key_of.ensures in
    let small = small_key c.args.names.now class.members (plain_key c.in-Some-key_of.key) c.requires some in
    omega (arith, small.1)

pub returns : goal.returns
returns c =
    let class = plain_class c.args.class.now in
    let names = c.args.names.now in
    let maker = plain_method c.in-Some.init.now in
    let teller = plain_method c.in-Some-find_key.method.now in
    let found = plain_key c.in-Some-key_of.key in
    let init : init_of names class.members ≡ Some maker = ap (λ ms. init_of names (map plain_method ms)) (sym c.as_slice-members.ensures) ∙ sym c.in-Some.ensures in
    let key : key_method names class.members ≡ Some teller = ap (λ ms. key_method names (map plain_method ms)) (sym c.as_slice-members.ensures) ∙ sym c.in-Some-find_key.ensures in
    let some : key_of names class.members ≡ Some found = ap (λ ms. key_of names (map plain_method ms)) (sym c.as_slice-members.ensures) ∙ sym c.in-Some-key_of.ensures in
    let fields = c.in_ok-fields.ensures ∙ ap (λ b. fields_of (plain_stmts b)) c.as_slice.ensures in
    let methods = c.in_ok-methods.ensures ∙ ap (λ ms. map sig_of (methods_of names (map plain_method ms))) c.as_slice-members.ensures in
    let params = c.in_ok-init.ensures ∙ ap (λ ps. sig_params (plain_params ps)) c.as_slice-2.ensures in
    let made = same_table class.name found fields methods params in
    (has_key names class maker teller found init key some, made ∙ sym (table_is names class maker found init some))
