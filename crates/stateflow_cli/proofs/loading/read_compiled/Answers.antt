use Rattle.std.proofs.lemmas.Result.{err_from_is_err_and}
use Rattle.stateflow_cli.proofs.LoadLaws.{compiles_none}
use Rattle.stateflow_cli.proofs.loading.read_compiled.Goals as goal

pub returns-in_err-compiled : goal.returns-in_err-compiled
returns-in_err-compiled c =
    let p = err_from_is_err_and c.from_residual.result c.from_residual.ensures.1 in
    rw (p.1, p.2) (compiles_none c.args.text.now _ c.in_err-compiled.ensures.compiles)
