use Rattle.std.proofs.lemmas.Result.{IfOk-weaker}
use Rattle.request_json.specs.ReplyLines.{reply_line, reply_data}
use Rattle.request_json.proofs.FloatLaws.{no_float}
use Rattle.request_json.proofs.SentValues.{line_of_value}
use Rattle.request_json.proofs.write.write_entry.Goals as goal

pub returns : goal.returns
unfolding reply_line
returns c =
    let id = c.args.id.now in
    let outcome = c.args.outcome.now in
    IfOk-weaker c.line_of.result _ _ (λ line. line_of_value (reply_data id outcome c.args.seq) line (no_float id outcome c.args.seq)) c.line_of.ensures
