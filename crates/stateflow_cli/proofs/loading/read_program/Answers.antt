use Rattle.std.proofs.lemmas.Result.{err_from_is_err_and}
use Rattle.stateflow_cli.specs.Loading.{IsChecked}
use Rattle.stateflow_cli.proofs.LoadLaws.{reads_none}
use Rattle.stateflow_cli.proofs.loading.read_program.Goals as goal

pub returns-in_err-accepted : goal.returns-in_err-accepted
returns-in_err-accepted c =
    let p = err_from_is_err_and c.from_residual.result c.from_residual.ensures.1 in
    rw (p.1, p.2) (reads_none IsChecked c.args.text.now _ c.in_err-accepted.ensures)

pub returns : goal.returns
returns c = c.in_ok-accepted.ensures.is_accepted
