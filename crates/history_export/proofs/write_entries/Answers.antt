use Rattle.std.proofs.Common.{ap, ◌∙◌, ◌+◌, Ok, Err, arith}
use Rattle.std.proofs.lemmas.Result.{err_from_is_err_and}
use Rattle.sf_outside.proofs.GainLaws.{Wrote-none, Wrote-passed}
use Rattle.engine.specs.EngineViews.{core_of, source_of}
use Rattle.history_export.proofs.EntryLaws.{written_on, stopped_on}
use Rattle.history_export.proofs.write_entries.Goals as goal

pub loop-before-init : goal.loop-before-init
loop-before-init g c = record { wrote = Wrote-none {U = Unit {0}} tt (g.K.Sink.held c.args.out.now); later = omega arith }

pub returns-in_err-write_found-clause-wrote : goal.returns-in_err-write_found-clause-wrote
returns-in_err-write_found-clause-wrote g c =
    let p = err_from_is_err_and c.from_residual.result c.from_residual.ensures.1 in
    stopped_on (source_of c.args.engine.now) {T = Unit {0}} {U = Unit {0}} tt c.from_residual.result (g.K.Sink.held c.args.out.now) (g.K.Sink.held c.loop-before.out) (g.K.Sink.held c.write_found.new.out)
    (core_of c.args.engine.now).history c.loop-before.before (c.loop-before.before + 1) (omega (arith, c.loop-before-test.true, c.entries-before-end.ensures)) (omega arith) c.loop-before.invariant.wrote
    (Wrote-passed (Unit {0}) c.in_err-write_found.field-0.0 c.from_residual.result (g.K.Sink.held c.loop-before.out) (g.K.Sink.held c.write_found.new.out) _ (p.1 ∙ ap Err p.2) c.in_err-write_found.ensures.wrote)
    c.from_residual.ensures.0

pub loop-before-preserved : goal.loop-before-preserved
loop-before-preserved g c = record {
  wrote =
      written_on (source_of c.args.engine.now) {T = Unit {0}} {U = Unit {0}} tt (Ok tt) (g.K.Sink.held c.args.out.now) (g.K.Sink.held c.loop-before.out) (g.K.Sink.held c.write_found.new.out)
      (core_of c.args.engine.now).history c.loop-before.before (c.loop-before.before + 1) (omega (arith, c.loop-before-test.true, c.entries-before-end.ensures)) (omega arith) c.loop-before.invariant.wrote
      c.in_ok-write_found.ensures.wrote;
  later = omega (arith, c.loop-before.invariant.later, c.write_found.ensures.counts.later);
}
