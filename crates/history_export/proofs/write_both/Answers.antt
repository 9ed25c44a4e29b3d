use Rattle.std.proofs.Common.{ap, Err, ◌∙◌, subst}
use Rattle.std.proofs.lemmas.Result.{err_from_is_err_and}
use Rattle.std.specs.Io.KnownBytes.{Appends}
use Rattle.sf_outside.specs.Bytes.{AppendsPrefix}
use Rattle.history_export.proofs.TwoLines.{no_line, part_of_first, one_line, part_of_second, both_lines}
use Rattle.history_export.proofs.write_both.Goals as goal

pub returns-in_err-asked-clause-wrote : goal.returns-in_err-asked-clause-wrote
returns-in_err-asked-clause-wrote g c =
    let p = err_from_is_err_and c.from_residual.result c.from_residual.ensures.1 in
    no_line c.from_residual.result (g.K.Sink.held c.args.out.now) _ _ (p.1 ∙ ap Err p.2)

pub returns-in_err-write-clause-wrote : goal.returns-in_err-write-clause-wrote
returns-in_err-write-clause-wrote g c =
    let p = err_from_is_err_and c.from_residual-in_err-write.result c.from_residual-in_err-write.ensures.1 in
    part_of_first c.from_residual-in_err-write.result (g.K.Sink.held c.args.out.now) (g.K.Sink.held c.write.new.self) _ _ (p.1 ∙ ap Err p.2)
    (subst (AppendsPrefix (g.K.Sink.held c.args.out.now) (g.K.Sink.held c.write.new.self)) (c.as_slice.ensures ∙ c.in_ok-asked.ensures) c.in_err-write.ensures.part)

pub returns-in_err-said-clause-wrote : goal.returns-in_err-said-clause-wrote
returns-in_err-said-clause-wrote g c =
    let p = err_from_is_err_and c.from_residual-in_err-said.result c.from_residual-in_err-said.ensures.1 in
    one_line c.from_residual-in_err-said.result (g.K.Sink.held c.args.out.now) (g.K.Sink.held c.write.new.self) _ _ (p.1 ∙ ap Err p.2)
    (subst (Appends (g.K.Sink.held c.args.out.now) (g.K.Sink.held c.write.new.self)) (c.as_slice.ensures ∙ c.in_ok-asked.ensures) c.in_ok-write.ensures.whole)

pub returns-in_err-write-2-clause-wrote : goal.returns-in_err-write-2-clause-wrote
returns-in_err-write-2-clause-wrote g c =
    let p = err_from_is_err_and c.from_residual-in_err-write-2.result c.from_residual-in_err-write-2.ensures.1 in
    part_of_second c.from_residual-in_err-write-2.result (g.K.Sink.held c.args.out.now) (g.K.Sink.held c.write.new.self) (g.K.Sink.held c.write-2.new.self) _ _ (p.1 ∙ ap Err p.2)
    (subst (Appends (g.K.Sink.held c.args.out.now) (g.K.Sink.held c.write.new.self)) (c.as_slice.ensures ∙ c.in_ok-asked.ensures) c.in_ok-write.ensures.whole)
    (subst (AppendsPrefix (g.K.Sink.held c.write.new.self) (g.K.Sink.held c.write-2.new.self)) (c.as_slice-2.ensures ∙ c.in_ok-said.ensures) c.in_err-write-2.ensures.part)

pub returns-clause-wrote : goal.returns-clause-wrote
returns-clause-wrote g c =
    both_lines {T = Unit {0}} tt (g.K.Sink.held c.args.out.now) (g.K.Sink.held c.write.new.self) (g.K.Sink.held c.write-2.new.self) _ _
    (subst (Appends (g.K.Sink.held c.args.out.now) (g.K.Sink.held c.write.new.self)) (c.as_slice.ensures ∙ c.in_ok-asked.ensures) c.in_ok-write.ensures.whole)
    (subst (Appends (g.K.Sink.held c.write.new.self) (g.K.Sink.held c.write-2.new.self)) (c.as_slice-2.ensures ∙ c.in_ok-said.ensures) c.in_ok-write-2.ensures.whole)
