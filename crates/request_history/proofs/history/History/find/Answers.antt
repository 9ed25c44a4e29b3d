use Rattle.std.proofs.Common.{ap, sym, ◌∙◌}
use Rattle.std.specs.Option.{option_map}
use Rattle.request_history.specs.HistoryView.{kept_at}
use Rattle.request_history.specs.Repeats.{kept_of}
use Rattle.request_history.proofs.HistoryLaws.{found_at, none_at}
use Rattle.request_history.proofs.history.History.find.Goals as goal

pub returns-in_err-at : goal.returns-in_err-at
returns-in_err-at c =
    ap (option_map kept_at) c.from_residual.ensures
    ∙ sym (none_at c.self.inside.table.entries c.args.id.now (sym c.in_err-at.ensures.index))
    ∙ ap (λ h. kept_of h.entries c.args.id.now) c.self.view_is

pub returns : goal.returns
returns c =
    sym (found_at c.self.inside.table.entries c.args.id.now c.in_ok-at.at (c.in_ok-at.id.now, c.in_ok-at.committed.now) (sym c.in_ok-at.ensures.index) c.in_ok-at.ensures.entry)
    ∙ ap (λ h. kept_of h.entries c.args.id.now) c.self.view_is
