use Rattle.std.proofs.lemmas.Result.{IfOk-weaker}
use Rattle.program_meaning.specs.Sources.{source_of}
use Rattle.request_json.specs.RequestTexts.{request_text, request_line, asked_data}
use Rattle.request_json.proofs.FloatLaws.{no_float_asked}
use Rattle.request_json.proofs.SentValues.{line_of_value}
use Rattle.request_json.proofs.requests.write_asked.Goals as goal

pub returns : goal.returns
unfolding request_line request_text
returns c =
    let src = source_of c.args.program.now in
    let id = c.args.id.now in
    let act = c.args.act.now in
    IfOk-weaker c.line_of.result _ _ (λ line. line_of_value (asked_data src id act) line (no_float_asked src (record { id = id; act = act }))) c.line_of.ensures
