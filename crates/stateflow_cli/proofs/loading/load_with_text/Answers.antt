use Rattle.std.proofs.Common.{sym, subst}
use Rattle.stateflow_cli.specs.Loading.{MayBegin}
use Rattle.stateflow_cli.proofs.LoadLaws.{gives_with_text}
use Rattle.stateflow_cli.proofs.loading.load_with_text.Goals as goal

pub returns-clause-gives : goal.returns-clause-gives
returns-clause-gives g c = gives_with_text (g.F.Files.content c.args.files.now c.args.name.now) c.as_slice.result.now c.read_with_text.result
    (subst (MayBegin (g.F.Files.content c.args.files.now c.args.name.now) 1048577) (sym c.as_slice.ensures.value) c.in_ok-text.ensures.begins) c.read_with_text.ensures
