use Rattle.std.proofs.Common.{Some, ap, sym, ◌∙◌}
use Rattle.std.specs.Str.{chars}
use Rattle.sf_bytes.proofs.Texts.{text_is, text_is_none}
use Rattle.sf_bytes.proofs.reading.text_of.Goals as goal

pub returns-in_ok-of-in-Ok : goal.returns-in_ok-of-in-Ok
returns-in_ok-of-in-Ok c = text_is _ _ _ _ _ c.in_ok-count.ensures c.if-rest-count.false c.split_at.ensures.front c.split_at.ensures.back c.in-Ok.ensures.cases.1
    ∙ ap (λ text. Some (text, c.split_at.result.1.now)) (sym (c.in_ok-of-in-Ok.ensures ∙ ap chars c.in-Ok.ensures.cases.0))

pub returns-in-Err : goal.returns-in-Err
returns-in-Err c = text_is_none _ _ _ _ c.in_ok-count.ensures c.if-rest-count.false c.split_at.ensures.front c.in-Err.ensures.cases.0
