use Rattle.std.proofs.Common.{List, ℕ, sym, subst}
use Rattle.std.specs.Prelude.{OnOk, OnErr}
use Rattle.std.specs.Io.KnownBytes.{Appends}
use Rattle.sf_outside.specs.Bytes.{AppendsPrefix}
use Rattle.session_steps.specs.declared.tally.Tally.{Tally}
use Rattle.session_steps.specs.Traces.{trace_line}
use Rattle.session_steps.proofs.Leaves.{trace_on}
use Rattle.batch_session.proofs.reporting.report.Goals as goal

pub returns-clause-whole : goal.returns-clause-whole
returns-clause-whole g c =
    let held = g.E.Sink.held c.args.err.now in
    let held' = g.E.Sink.held c.write_trace.new.err in
    subst (λ (text : List ℕ). OnOk c.write_trace.result (Appends held held' text)) (sym (trace_on c.args.traces c.args.tally.now c.args.counts c.if-not-traces.false))
    (subst (λ (t : Tally). OnOk c.write_trace.result (Appends held held' (trace_line t.batches c.args.counts))) c.count.ensures c.write_trace.ensures.whole)

pub returns-clause-part : goal.returns-clause-part
returns-clause-part g c =
    let held = g.E.Sink.held c.args.err.now in
    let held' = g.E.Sink.held c.write_trace.new.err in
    subst (λ (text : List ℕ). OnErr c.write_trace.result (AppendsPrefix held held' text)) (sym (trace_on c.args.traces c.args.tally.now c.args.counts c.if-not-traces.false))
    (subst (λ (t : Tally). OnErr c.write_trace.result (AppendsPrefix held held' (trace_line t.batches c.args.counts))) c.count.ensures c.write_trace.ensures.part)
