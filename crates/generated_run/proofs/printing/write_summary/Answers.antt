use Rattle.std.proofs.Common.{◌∙◌, OnOk, OnErr, subst}
use Rattle.std.specs.Io.KnownBytes.{Appends}
use Rattle.sf_outside.specs.Bytes.{AppendsPrefix}
use Rattle.generated_run.proofs.LineLaws.{line_of_pieces}
use Rattle.generated_run.proofs.printing.write_summary.Goals as goal

pub returns-clause-whole : goal.returns-clause-whole
returns-clause-whole g c =
    subst (λ text. OnOk c.write_pieces.result (Appends (g.K.Sink.held c.args.out.now) (g.K.Sink.held c.write_pieces.new.out) text))
    (line_of_pieces c.args.summary.now _ _ _ _ _ c.format-total.result.sign.now c.format-total.result.front.now c.format-total.result.back.now
    (c.as_bytes.ensures.value ∙ c.format.ensures.text) (c.as_bytes-2.ensures.value ∙ c.format-2.ensures.text)
    (c.as_bytes-3.ensures.value ∙ c.format-3.ensures.text) (c.as_bytes-4.ensures.value ∙ c.format-4.ensures.text)
    (c.as_bytes-5.ensures.value ∙ c.format-5.ensures.text) c.format-total.ensures)
    c.write_pieces.ensures.whole

pub returns-clause-part : goal.returns-clause-part
returns-clause-part g c =
    subst (λ text. OnErr c.write_pieces.result (AppendsPrefix (g.K.Sink.held c.args.out.now) (g.K.Sink.held c.write_pieces.new.out) text))
    (line_of_pieces c.args.summary.now _ _ _ _ _ c.format-total.result.sign.now c.format-total.result.front.now c.format-total.result.back.now
    (c.as_bytes.ensures.value ∙ c.format.ensures.text) (c.as_bytes-2.ensures.value ∙ c.format-2.ensures.text)
    (c.as_bytes-3.ensures.value ∙ c.format-3.ensures.text) (c.as_bytes-4.ensures.value ∙ c.format-4.ensures.text)
    (c.as_bytes-5.ensures.value ∙ c.format-5.ensures.text) c.format-total.ensures)
    c.write_pieces.ensures.part
