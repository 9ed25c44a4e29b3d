use Rattle.std.proofs.Common.{arith, map, string_bytes}
use Rattle.std.proofs.lemmas.Grind.{common_steps}
use Rattle.command_words.specs.Commands.{asked_by}
use Rattle.command_words.specs.CommandReading.{asked}
use Rattle.command_words.specs.Readings.{Reads}
use Rattle.command_words.proofs.AskLaws.{only}
use Rattle.command_words.proofs.asking.command_of.Goals as goal

pub returns-in-len1-up : goal.returns-in-len1-up
returns-in-len1-up c =
    let read : Reads asked_by (asked (map string_bytes c.args.words.now)) c.asked_by_name.result = grind (arith, common_steps) in
    only (map string_bytes c.args.words.now) c.asked_by_name.result read
