use Rattle.std.proofs.Common.{◌∙◌, ◌++◌, ap}
use Rattle.std.specs.Str.{chars}
use Rattle.std.proofs.lemmas.Str.{chars-append}
use Rattle.sf_value.proofs.text.Text.joined.Goals as goal

pub returns : goal.returns
returns c =
    ap chars c.in_ok-joined.ensures.value
    ∙ chars-append c.as_str.result.now c.as_str-2.result.now c.as_str.utf8
    ∙ (λ i. c.as_str.ensures.points i ++ c.as_str-2.ensures.points i)
