use Rattle.std.proofs.Common.{◌≡◌, IfOk, if◌then◌else◌, true≢false, refl, sym, subst}
use Rattle.request_json.specs.ReplyLines.{bad_line}
use Rattle.request_history.specs.HistoryView.{kept_at}
use Rattle.session.specs.OutputText.{line_of_kept, reused}
use Rattle.request_history.proofs.RepeatLaws.{acts_same, acts_differ}
use Rattle.session.proofs.answering.repeat.Goals as goal

pub returns-then-same : goal.returns-then-same
returns-then-same c =
    subst (λ t. IfOk c.write_entry.result (λ line. line ≡ (if t then line_of_kept (kept_at c.args.found) else bad_line reused c.args.number)))
    (sym (acts_same c.args.found.committed.now.act c.args.asked.now (c.if-same.ensures.0 refl))) c.write_entry.ensures

pub returns-else-same : goal.returns-else-same
returns-else-same c =
    subst (λ t. IfOk c.write_bad.result (λ line. line ≡ (if t then line_of_kept (kept_at c.args.found) else bad_line reused c.args.number)))
    (sym (acts_differ c.args.found.committed.now.act c.args.asked.now (λ e. true≢false (sym (c.if-same.ensures.1 e))))) c.write_bad.ensures
