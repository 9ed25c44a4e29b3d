use Rattle.std.proofs.Common.{◌≡◌, ◌∙◌, ◌-◌, ap, sym, suc, arith}
use Rattle.request_history.specs.Repeats.{kept_in}
use Rattle.request_history.proofs.HistoryLaws.{entry_there}
use Rattle.request_history.proofs.history.History.entry.Goals as goal

pub returns : goal.returns
returns c =
    let other = c.if-place-eq0.false in
    let next : c.args.place ≡ suc (c.args.place - 1) = omega arith in
    sym (entry_there c.self.inside.table.entries (c.args.place - 1) c.args.place _ next c.in_ok-id.ensures.entry) ∙ ap (λ h. kept_in h.entries c.args.place) c.self.view_is
