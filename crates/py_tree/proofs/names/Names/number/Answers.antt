use Rattle.std.proofs.Common.{◌≡◌, None, Some, map, ap, sym, ◌∙◌, subst}
use Rattle.std.specs.Prelude.{string_bytes, IsUtf8}
use Rattle.std.proofs.lemmas.Str.{IsUtf8-string_bytes, is_utf8-from_IsUtf8}
use Rattle.py_tree.specs.NameTable.{place_of, with_name, IsTable}
use Rattle.py_tree.proofs.NameLaws.{given-with_name, IsTable-with_name, with_name-new, place-end}
use Rattle.py_tree.proofs.names.Names.number.Goals as goal

is_with_name : (c : goal.In_ok-insert) → map string_bytes c.insert.new.self.keys ≡ with_name c.args.self.now c.args.text.now
is_with_name c = given-with_name c.self.inside.texts.keys c.insert.new.self.keys c.in_ok-to_string.field-0 c.args.self.now c.args.text.now c.in_ok-insert.ensures.keys c.in_ok-to_string.ensures.ok c.self.view_is

pub invariant_of-self-2 : goal.invariant_of-self-2
invariant_of-self-2 c = subst IsTable (sym (is_with_name c)) (IsTable-with_name c.args.self.now c.args.text.now c.in_default.ensures.table (is_utf8-from_IsUtf8 c.args.text.now (subst IsUtf8 c.in_ok-to_string.ensures.ok (IsUtf8-string_bytes c.in_ok-to_string.field-0))) c.requires)

pub returns-clause-place : goal.returns-clause-place
returns-clause-place c =
    let new : place_of c.args.self.now c.args.text.now ≡ None = sym c.in_default.ensures.place in
    ap (λ names. place_of names c.args.text.now) (is_with_name c ∙ with_name-new c.args.self.now c.args.text.now new) ∙ place-end c.args.self.now c.args.text.now new ∙ ap Some (sym c.count-next.ensures.count)

pub returns-clause-with_name : goal.returns-clause-with_name
returns-clause-with_name c = is_with_name c
