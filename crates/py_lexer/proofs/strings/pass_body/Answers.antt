use Rattle.std.proofs.Common.{◌<◌, ◌+◌, ◌∙◌, ap, refl, sym, subst}
use Rattle.std.specs.Prelude.{slice_index}
use Rattle.std.specs.Str.Lossy.{utf8_valid_len}
use Rattle.py_lexer.specs.Cursor.{byte}
use Rattle.py_lexer.proofs.strings.pass_body.Goals as goal

pub returns-then-closes-clause-closed : goal.returns-then-closes-clause-closed
unfolding byte
returns-then-closes-clause-closed c = record {
  quotes_at = c.body.text.at;
  behind = c.body.invariant.forward;
  ends = c.pass.ensures.forward ∙ ap (λ n. c.body.text.at + n) c.len.ensures;
  valid = subst (λ w. c.body.text.at < utf8_valid_len w) c.body.invariant.same_text (c.if-is_broken.ensures.within (c.body-test.ensures.some refl) refl);
  mark = ap (λ w. slice_index w c.body.text.at) (sym c.body.invariant.same_text) ∙ c.if-closes.ensures.mark refl;
}
