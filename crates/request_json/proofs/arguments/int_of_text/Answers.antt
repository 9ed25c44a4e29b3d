use Rattle.std.proofs.Common.{◌≡◌, true, Err, ap, sym, ◌∙◌}
use Rattle.std.specs.declared.num.ParseIntError.{ParseIntError}
use Rattle.request_json.specs.Arguments.{is_numeral}
use Rattle.request_json.proofs.IntLaws.{digits_of, spelt, spelt_ok, no_numeral}
use Rattle.request_json.proofs.arguments.int_of_text.Goals as goal

pub returns-then-not-is_numeral : goal.returns-then-not-is_numeral
returns-then-not-is_numeral c = no_numeral c.args.text.now (ap is_numeral (sym (c.digits_of.ensures ∙ ap digits_of c.as_bytes.ensures.value)) ∙ sym c.if-not-is_numeral.ensures)

pub returns-in-Ok : goal.returns-in-Ok
returns-in-Ok c =
    let numeral : is_numeral (digits_of c.args.text.now) ≡ true = ap is_numeral (sym (c.digits_of.ensures ∙ ap digits_of c.as_bytes.ensures.value)) ∙ sym c.if-not-is_numeral.ensures in
    spelt_ok ParseIntError c.args.text.now c.in-Ok.number numeral c.in-Ok.ensures.value.0

pub returns-in-Err : goal.returns-in-Err
returns-in-Err c =
    let numeral : is_numeral (digits_of c.args.text.now) ≡ true = ap is_numeral (sym (c.digits_of.ensures ∙ ap digits_of c.as_bytes.ensures.value)) ∙ sym c.if-not-is_numeral.ensures in
    spelt ParseIntError c.args.text.now (Err c.in-Err.field-0) numeral c.in-Err.ensures.value.0
