use Rattle.std.proofs.Common.{◌≡◌, ◌↔◌, ap, ◌∙◌, ◌++◌, ◌∷◌, [], subst}
use Rattle.std.specs.Prelude.{None, IsTrue}
use Rattle.request_history.specs.HistoryView.{entries_of}
use Rattle.request_history.specs.Repeats.{kept_of}
use Rattle.request_history.proofs.HistoryLaws.{insert_new, none_kept}
use Rattle.request_history.proofs.history.History.commit_new.Goals as goal

pub returns-clause-new : goal.returns-clause-new
returns-clause-new c =
    subst (λ h. IsTrue c.is_none.result ↔ (kept_of h.entries c.args.request.id ≡ None)) c.self.view_is
    (none_kept c.self.inside.table.entries c.args.request.id c.in_ok-before.before c.is_none.result c.in_ok-before.ensures.old c.is_none.ensures)

pub returns-clause-committed : goal.returns-clause-committed
returns-clause-committed c = λ is_new.
    ap entries_of c.in_ok-before.ensures.entries
    ∙ insert_new c.self.inside.table.entries c.args.request.id (record { act = c.args.request.act; outcome = c.args.outcome }) (ap (λ h. kept_of h.entries c.args.request.id) c.self.view_is ∙ (returns-clause-new c).0 is_new)
    ∙ ap (λ h. h.entries ++ record { request = c.args.request; outcome = c.args.outcome } ∷ []) c.self.view_is
