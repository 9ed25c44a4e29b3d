use Rattle.accepted_texts.proofs.AcceptedTexts.{accepted_is_utf8}
use Rattle.stateflow_cli.proofs.loading.read_with_text.Goals as goal

pub copy_text-requires : goal.copy_text-requires
copy_text-requires c = accepted_is_utf8 c.args.text.now _ _ c.in_ok-compiled.ensures.is_accepted
