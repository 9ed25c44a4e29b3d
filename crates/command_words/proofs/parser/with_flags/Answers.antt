use Rattle.std.proofs.Common.{ap₂, ◌∙◌}
use Rattle.clap.specs.Words.{app_of, with_rule}
use Rattle.command_words.specs.ClapCommands.{flag_arg}
use Rattle.command_words.proofs.ArgLoops.{one_more}
use Rattle.command_words.proofs.parser.with_flags.Goals as goal

pub loop-name-preserved : goal.loop-name-preserved
loop-name-preserved c =
    c.in_ok-more.ensures.shape c.flag.ensures.own
    ∙ ap₂ with_rule c.loop-name.invariant c.flag.ensures.rule
    ∙ one_more flag_arg (app_of c.args.command) c.args.names.now c.loop-name.name-index _ c.loop-name-test.true
