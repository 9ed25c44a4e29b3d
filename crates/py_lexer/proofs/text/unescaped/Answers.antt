use Rattle.std.proofs.Common.{◌≡◌, ◌∙◌, ap, sym, subst, arith, length, drop, ◌+◌, ◌-◌, ◌≤◌}
use Rattle.std.proofs.lemmas.List.{length-drop}
use Rattle.py_tree.specs.StringText.{escaped}
use Rattle.std.specs.Prelude.{◌<◌, slice_index, IsUtf8, ◌++◌}
use Rattle.py_lexer.proofs.TextLaws.{escape_read, escaped_utf8, cr_read, left_out_utf8, is_ascii}
use Rattle.py_lexer.proofs.text.unescaped.Goals as goal

pub bytes-preserved-then-is_backslash : goal.bytes-preserved-then-is_backslash
bytes-preserved-then-is_backslash c =
    let ascii : slice_index c.args.bytes.now c.bytes.at < 128 = is_ascii (slice_index c.args.bytes.now c.bytes.at) (sym c.if-is_backslash.ensures) in
    let fits : c.escaped_at-character.result.1 ≤ length (drop (c.bytes.at + 1) c.args.bytes.now) = subst (λ r. c.escaped_at-character.result.1 ≤ length r) c.from_place.ensures c.escaped_at-character.ensures.within in
    record {
      so_far = escape_read c.bytes.text.items c.push_character.new.text.items c.args.bytes.now c.bytes.at c.escaped_at-character.result c.bytes-test.true (sym c.if-is_backslash.ensures) (c.escaped_at-character.ensures.value ∙ ap escaped c.from_place.ensures) c.in_ok-push_character.ensures ∙ c.bytes.invariant.so_far;
      utf8 = subst (λ t. IsUtf8 (t ++ drop (c.bytes.at + 1 + c.escaped_at-character.result.1) c.args.bytes.now)) (sym c.in_ok-push_character.ensures) (escaped_utf8 c.bytes.text.items c.args.bytes.now c.bytes.at c.escaped_at-character.result.1 c.escaped_at-character.result.0 c.bytes-test.true ascii c.escaped_at-character.ensures.character fits (subst (λ r. 0 < c.escaped_at-character.result.1 → slice_index r (c.escaped_at-character.result.1 - 1) < 128) c.from_place.ensures c.escaped_at-character.ensures.last) c.bytes.invariant.utf8);
      within = omega (arith, fits, length-drop (c.bytes.at + 1) c.args.bytes.now, c.bytes-test.true);
    }

pub bytes-preserved : goal.bytes-preserved
bytes-preserved c =
    let cr : slice_index c.args.bytes.now c.bytes.at ≡ 13 = c.if-byte-ne13.false in
    record {
      so_far = cr_read c.bytes.text.items c.args.bytes.now c.bytes.at c.bytes-test.true cr ∙ c.bytes.invariant.so_far;
      utf8 = left_out_utf8 c.bytes.text.items c.args.bytes.now c.bytes.at c.bytes-test.true (omega (arith, cr)) c.bytes.invariant.utf8;
      within = omega (arith, c.bytes-test.true);
    }
