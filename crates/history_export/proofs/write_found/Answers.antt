use Rattle.std.proofs.Common.{ap, ◌∙◌, sym, subst, Ok}
use Rattle.sf_outside.specs.Gains.{Wrote}
use Rattle.sf_outside.proofs.GainLaws.{Wrote-none}
use Rattle.request_history.specs.HistoryView.{kept_at}
use Rattle.std.specs.Option.{option_map}
use Rattle.engine.specs.EngineViews.{source_of}
use Rattle.export_laws.specs.Exports.{kept_lines}
use Rattle.history_export.proofs.write_found.Goals as goal

pub returns-in-None-clause-wrote : goal.returns-in-None-clause-wrote
returns-in-None-clause-wrote g c =
    let held = g.K.Sink.held c.args.out.now in
    subst (λ kept. Wrote {T = Unit {0}} (Ok tt) held held (kept_lines (source_of c.args.engine.now) kept)) (ap (option_map kept_at) (sym c.in-None.is) ∙ c.entry.ensures) (Wrote-none {U = Unit {0}} tt held)
