use Rattle.std.proofs.Common.{refl}
use Rattle.std.proofs.lemmas.Result.{IfOk-weaker}
use Rattle.request_json.specs.ReplyLines.{bad_line, bad_data}
use Rattle.request_json.proofs.SentValues.{line_of_value}
use Rattle.request_json.proofs.write.write_bad.Goals as goal

pub returns : goal.returns
unfolding bad_line
returns c = IfOk-weaker c.line_of.result _ _ (λ line. line_of_value (bad_data c.args.text.now c.args.line) line refl) c.line_of.ensures
