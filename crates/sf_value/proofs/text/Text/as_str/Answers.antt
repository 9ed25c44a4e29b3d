use Rattle.std.proofs.Common.{ap, sym, ◌∙◌}
use Rattle.std.specs.Str.{all_scalars, encode_utf8_all, chars}
use Rattle.std.proofs.lemmas.Str.{encodes-chars, chars-encodes}
use Rattle.sf_value.proofs.text.Text.as_str.Goals as goal

pub returns-clause-bytes : goal.returns-clause-bytes
returns-clause-bytes c = sym (ap encode_utf8_all (sym c.self.view_is) ∙ ap (λ b. encode_utf8_all (chars b)) (sym c.as_str.ensures) ∙ encodes-chars _ c.as_str.utf8)

pub returns-clause-unicode : goal.returns-clause-unicode
returns-clause-unicode c =
    let kept = c.as_str.utf8 in
    ap all_scalars (sym c.self.view_is ∙ ap chars (sym c.as_str.ensures) ∙ ap chars (sym kept.1.1) ∙ chars-encodes kept.0 kept.1.0) ∙ kept.1.0
