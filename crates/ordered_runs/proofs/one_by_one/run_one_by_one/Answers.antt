use Rattle.std.proofs.Common.{◌≡◌, ◌<◌, length, take, get_or, sym, subst}
use Rattle.program_meaning.proofs.Soundness.{checked_are_known}
use Rattle.block_step.specs.CompiledViews.{compiled_program, compiled_names, compiled_tables}
use Rattle.aria_batch.specs.Vocabulary.{acts_of}
use Rattle.aria_batch.specs.BatchRun.{source_of}
use Rattle.ordered_runs.proofs.OneLaws.{HasRun, none_has_run, one_has_run, acts_more, act_fits_at}
use Rattle.ordered_runs.proofs.one_by_one.run_one_by_one.Goals as goal

pub loop-request-init : goal.loop-request-init
loop-request-init c =
    none_has_run (source_of c.args.compiled.now) (compiled_tables c.args.compiled.now) c.args.state.now.contents c.in_ok-left.left.contents _ c.in_ok-left.ensures
    (λ i. record { outcomes = c.new.ensures i; works = c.new-2.ensures i; places = c.new-3.ensures i }) c.requires.state

pub run_next-requires-clause-fit : goal.run_next-requires-clause-fit
run_next-requires-clause-fit c =
    let within = subst (λ l. c.loop-request.request-index < length l) c.as_slice-request-items.ensures c.loop-request-test.true in
    let is = subst (λ l. c.request-item.result ≡ get_or l c.loop-request.request-index c.request-item.result) c.as_slice-request-items.ensures c.request-item.is in
    act_fits_at (compiled_tables c.args.compiled.now) c.args.requests.now c.loop-request.request-index c.request-item.result within is c.requires.fit

pub loop-request-preserved : goal.loop-request-preserved
loop-request-preserved c =
    let within = subst (λ l. c.loop-request.request-index < length l) c.as_slice-request-items.ensures c.loop-request-test.true in
    let is = subst (λ l. c.request-item.result ≡ get_or l c.loop-request.request-index c.request-item.result) c.as_slice-request-items.ensures c.request-item.is in
    let fit = act_fits_at (compiled_tables c.args.compiled.now) c.args.requests.now c.loop-request.request-index c.request-item.result within is c.requires.fit in
    subst (λ asked. HasRun (source_of c.args.compiled.now) (compiled_tables c.args.compiled.now) c.args.state.now.contents asked c.run_next.new.state.contents c.run_next.new.ordered)
    (sym (acts_more c.args.requests.now c.loop-request.request-index c.request-item.result within is))
    (one_has_run (compiled_names c.args.compiled.now) (compiled_program c.args.compiled.now) (checked_are_known c.args.compiled.now.program) (compiled_tables c.args.compiled.now) c.requires.whole.has_tables c.args.state.now.contents
    (acts_of (take c.loop-request.request-index c.args.requests.now)) c.request-item.result.act c.loop-request.left.contents c.run_next.new.state.contents c.loop-request.ordered c.run_next.new.ordered fit c.loop-request.invariant
    c.in_ok-run_next.ensures.state c.in_ok-run_next.ensures.joined)
