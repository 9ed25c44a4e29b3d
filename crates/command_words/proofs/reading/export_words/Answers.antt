use Rattle.std.proofs.Common.{map, string_bytes, sym, subst, ◌∙◌}
use Rattle.clap.specs.Words.{App}
use Rattle.command_words.specs.Commands.{export_parts}
use Rattle.command_words.specs.Readings.{Matches}
use Rattle.command_words.proofs.ClapCommand.{formed_as, unformed, export_finds}
use Rattle.command_words.proofs.reading.export_words.Goals as goal

pub returns-then-not-are_formed : goal.returns-then-not-are_formed
returns-then-not-are_formed c = unformed export_parts (map string_bytes c.args.words.now) (sym (formed_as c.args.words.now) ∙ sym c.if-not-are_formed.ensures)

pub returns-in-Ok : goal.returns-in-Ok
returns-in-Ok c =
    export_finds (map string_bytes c.args.words.now) c.matches_in.result (sym (formed_as c.args.words.now) ∙ sym c.if-not-are_formed.ensures)
    (subst (λ (a : App). Matches a (map string_bytes c.args.words.now) c.matches_in.result) c.in-Ok.ensures c.matches_in.ensures)
