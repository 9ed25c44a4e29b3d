use Rattle.std.proofs.Common.{ap, ◌∙◌, Err}
use Rattle.std.proofs.lemmas.Result.{err_from_is_err_and}
use Rattle.history_export.proofs.TwoLines.{not_handed}
use Rattle.history_export.proofs.export.Goals as goal

pub returns-in_err-flush-clause-wrote : goal.returns-in_err-flush-clause-wrote
returns-in_err-flush-clause-wrote g c =
    let p = err_from_is_err_and c.from_residual-in_err-flush.result c.from_residual-in_err-flush.ensures.1 in
    not_handed c.from_residual-in_err-flush.result (g.K.Sink.held c.args.out.now) (g.K.Sink.held c.write_entries.new.out) (g.K.Sink.held c.flush.new.self) _ (p.1 ∙ ap Err p.2)
    c.in_ok-write_entries.ensures.wrote c.in_err-flush.ensures.kept
