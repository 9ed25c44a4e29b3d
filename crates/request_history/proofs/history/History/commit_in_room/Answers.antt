use Rattle.std.proofs.Common.{◌≡◌, ap, ◌∙◌, ◌++◌, ◌∷◌, [], Result, Ok, Err}
use Rattle.std.specs.Prelude.{OnOk}
use Rattle.request_history.specs.HistoryView.{entries_of}
use Rattle.request_history.specs.Repeats.{kept_of}
use Rattle.request_history.proofs.HistoryLaws.{insert_new}
use Rattle.request_history.proofs.history.History.commit_in_room.Goals as goal

-- what holds of an Ok that was taken apart
of_ok : {A E : Type 0} (r : Result A E) (P : Type 0) (x : A) → r ≡ Ok x → OnOk r P → P
of_ok (Ok y) P x is p = p
of_ok (Err e) P x is p = cc

pub returns-clause-entries : goal.returns-clause-entries
returns-clause-entries c =
    ap entries_of (of_ok c.insert.result _ c.unwrap.result c.unwrap.ensures c.insert.ensures.entries)
    ∙ insert_new c.self.inside.table.entries c.args.request.id (record { act = c.args.request.act; outcome = c.args.outcome }) (ap (λ h. kept_of h.entries c.args.request.id) c.self.view_is ∙ c.requires.id)
    ∙ ap (λ h. h.entries ++ record { request = c.args.request; outcome = c.args.outcome } ∷ []) c.self.view_is
