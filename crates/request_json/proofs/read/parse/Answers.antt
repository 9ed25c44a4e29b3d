use Rattle.std.proofs.Common.{ap, sym, ◌∙◌, cond, None, length, eq-eqb}
use Rattle.std.proofs.lemmas.Str.{utf8_valid_len-IsUtf8}
use Rattle.std.specs.Str.Lossy.{utf8_valid_len}
use Rattle.serde_json.specs.Read.{read}
use Rattle.request_json.proofs.read.parse.Goals as goal

pub returns-in-Ok-from_str : goal.returns-in-Ok-from_str
returns-in-Ok-from_str c =
    let cases = c.in-Ok.ensures.cases in
    sym (ap (λ b. cond b (read c.args.line.now) None) (eq-eqb (utf8_valid_len c.args.line.now) (length c.args.line.now) (utf8_valid_len-IsUtf8 c.args.line.now cases.1))
    ∙ ap read (sym cases.0) ∙ c.in-Ok-from_str.ensures.ok)
