use Rattle.std.proofs.Common.{map, string_bytes}
use Rattle.command_words.proofs.AskLaws.{read_so}
use Rattle.stateflow_cli.proofs.DeedLaws.{command_in_range}
use Rattle.stateflow_cli.proofs.words.command_of.Goals as goal

pub returns : goal.returns
returns c = record {
  reads = read_so (map string_bytes c.args.words.now) c.command_of.result c.command_of.ensures;
  in_range = command_in_range (map string_bytes c.args.words.now) c.command_of.result c.command_of.ensures;
}
