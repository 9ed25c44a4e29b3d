use Rattle.std.proofs.Common.{◌≡◌, ◌<◌, ap, sym, ◌∙◌, length, arith}
use Rattle.std.specs.Prelude.{nat_le, not, ◌&&◌}
use Rattle.std.proofs.lemmas.Bool.Decides.{nat_tests}
use Rattle.std.proofs.lemmas.Str.{encodes-chars}
use Rattle.request_json.proofs.DataLaws.{some_few, no_length}
use Rattle.request_json.proofs.read.is_id.Goals as goal

pub returns-then-not-is_empty : goal.returns-then-not-is_empty
returns-then-not-is_empty c =
    let some : 0 < length c.args.text.now = grind (arith, nat_tests, c.if-not-is_empty.ensures) in
    some_few (length c.args.text.now) some ∙ ap (λ bytes. nat_le 1 (length bytes) && nat_le (length bytes) 64) (sym (encodes-chars _ c.utf8.text))

pub returns-else-not-is_empty : goal.returns-else-not-is_empty
returns-else-not-is_empty c =
    let none : length c.args.text.now ≡ 0 = grind (arith, nat_tests, c.if-not-is_empty.ensures) in
    ap not c.if-not-is_empty.false ∙ no_length (length c.args.text.now) none ∙ ap (λ bytes. nat_le 1 (length bytes) && nat_le (length bytes) 64) (sym (encodes-chars _ c.utf8.text))
