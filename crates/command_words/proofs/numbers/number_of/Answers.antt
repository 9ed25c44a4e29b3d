use Rattle.std.proofs.Common.{◌≡◌, true, Ok, Err, ap, sym, ◌∙◌}
use Rattle.std.specs.declared.num.ParseIntError.{ParseIntError}
use Rattle.command_words.specs.Numbers.{is_numeral}
use Rattle.command_words.proofs.NumberLaws.{spelt, no_numeral}
use Rattle.command_words.proofs.numbers.number_of.Goals as goal

pub returns-then-not-is_numeral : goal.returns-then-not-is_numeral
returns-then-not-is_numeral c = no_numeral c.args.text.now (ap is_numeral (sym c.as_bytes.ensures.value) ∙ sym c.if-not-is_numeral.ensures)

pub returns-in-Ok : goal.returns-in-Ok
returns-in-Ok c =
    let numeral : is_numeral c.args.text.now ≡ true = ap is_numeral (sym c.as_bytes.ensures.value) ∙ sym c.if-not-is_numeral.ensures in
    spelt ParseIntError c.args.text.now (Ok c.in-Ok.number) numeral c.in-Ok.ensures.value.0

pub returns-in-Err : goal.returns-in-Err
returns-in-Err c =
    let numeral : is_numeral c.args.text.now ≡ true = ap is_numeral (sym c.as_bytes.ensures.value) ∙ sym c.if-not-is_numeral.ensures in
    spelt ParseIntError c.args.text.now (Err c.in-Err.field-0) numeral c.in-Err.ensures.value.0
