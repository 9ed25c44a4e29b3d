-- An accepted text is UTF-8, and short.
use Rattle.std.proofs.Common.{ℕ, ◌≤◌, List, length, ap, arith}
use Rattle.std.specs.Prelude.{IsUtf8, chars}
use Rattle.std.proofs.lemmas.Str.{encodes-chars}
use Rattle.py_tree.specs.PlainProgram.{PlainProgram}
use Rattle.byte_sizes.specs.Spelt.{IsShortText}
use Rattle.program_text.specs.Readings.{IsAcceptedText}
use Rattle.accepted_texts.proofs.LexedTexts.{lexed_is_utf8, lexed_is_small}

pub accepted_is_utf8 : (text : List ℕ) (program : PlainProgram) (names : List (List ℕ)) → IsAcceptedText text program names → IsUtf8 text
accepted_is_utf8 text program names is = lexed_is_utf8 text is.logical is.lexed

pub accepted_is_short : (text : List ℕ) (program : PlainProgram) (names : List (List ℕ)) → IsAcceptedText text program names → IsShortText (chars text)
accepted_is_short text program names is =
    let small : length text ≤ 1048576 = lexed_is_small text is.logical is.lexed in
    omega (arith, small, ap length (encodes-chars text (accepted_is_utf8 text program names is)))
