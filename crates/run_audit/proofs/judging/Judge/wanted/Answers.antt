use Rattle.std.proofs.Common.{◌∙◌, ap, suc, length}
use Rattle.run_audit.specs.Verdict.{reply_text}
use Rattle.run_audit.proofs.ReplyLaws.{line_of_reply}
use Rattle.run_audit.proofs.judging.Judge.wanted.Goals as goal

pub returns-clause-line : goal.returns-clause-line
returns-clause-line c =
    c.without_end.ensures _ (c.in_ok-line.ensures ∙ line_of_reply c.args.request.now.id c.in_ok-outcome.outcome (suc (length c.args.self.now.ids.keys)))
    ∙ ap (λ o. reply_text c.args.request.now.id o (suc (length c.args.self.now.ids.keys))) c.in_ok-outcome.ensures.outcome
