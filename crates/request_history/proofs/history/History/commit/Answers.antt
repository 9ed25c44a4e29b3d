use Rattle.std.proofs.Common.{ap, ◌∙◌, ◌++◌, ◌∷◌, []}
use Rattle.request_history.specs.HistoryView.{entries_of}
use Rattle.request_history.specs.Repeats.{kept_of}
use Rattle.request_history.proofs.HistoryLaws.{insert_new}
use Rattle.request_history.proofs.history.History.commit.Goals as goal

pub returns-clause-ok : goal.returns-clause-ok
returns-clause-ok c =
    ap entries_of c.in_ok-insert.ensures.entries
    ∙ insert_new c.self.inside.table.entries c.args.request.id (record { act = c.args.request.act; outcome = c.args.outcome }) (ap (λ h. kept_of h.entries c.args.request.id) c.self.view_is ∙ c.requires)
    ∙ ap (λ h. h.entries ++ record { request = c.args.request; outcome = c.args.outcome } ∷ []) c.self.view_is
