use Rattle.std.proofs.Common.{arith, sym, ap, ◌∙◌}
use Rattle.std.specs.Option.{option_map}
use Rattle.request_history.specs.HistoryView.{kept_at}
use Rattle.generated_run.proofs.EntryCounts.{found_next}
use Rattle.generated_run.proofs.counting.count_entries.Goals as goal

pub loop-before-preserved : goal.loop-before-preserved
loop-before-preserved c =
    let next =
    found_next c.args.engine.now.history.entries c.loop-before.before c.in-Some.found (ap (option_map kept_at) (sym c.in-Some.is) ∙ c.entry.ensures) in
    record {
      within = omega (arith, next.within);
      failed = omega (arith, next.counted, c.loop-before.invariant.failed, c.failures_in-failed.ensures.value);
      most = omega (arith, c.loop-before.invariant.most, c.failures_in-failed.ensures.most);
    }
