use Rattle.std.proofs.Common.{◌≡◌, map, take}
use Rattle.clap.specs.Words.{app_of}
use Rattle.command_words.specs.ClapCommands.{with_args, flag_arg}
use Rattle.command_words.proofs.parser.with_flags.Given as goal

abbrev pub invariant-loop-name : goal.invariant-loop-name
invariant-loop-name l = app_of l.more ≡ with_args flag_arg (app_of l.fn.command) (map (λ n. n.now) (take l.name-index l.names))
