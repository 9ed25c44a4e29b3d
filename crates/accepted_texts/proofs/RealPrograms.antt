-- What an accepted text's program writes is real.
use Rattle.std.proofs.Common.{ℕ, List, pos, lit<}
use Rattle.std.specs.Prelude.{slice_index_or, IsUtf8}
use Rattle.std.specs.Int.{w128}
use Rattle.std.specs.List.{All}
use Rattle.std.proofs.lemmas.Int.{fits_signed_from_abs}
use Rattle.std.proofs.lemmas.Option.{slice_get-get_or}
use Rattle.std.proofs.lemmas.Str.{IsUtf8-from_is_utf8}
use Rattle.py_tree.specs.NameTable.{IsTable}
use Rattle.py_tree.specs.PlainProgram.{PlainProgram}
use Rattle.program_text.specs.Readings.{IsAcceptedText}
use Rattle.short_runs.specs.RealRuns.{IsRealProgram}
use Rattle.accepted_texts.proofs.LexedInts.{IsReal, lexed_ints}
use Rattle.accepted_texts.proofs.ProgramInts.{program_ints}

nought_is_real : IsReal (pos 0)
nought_is_real = fits_signed_from_abs w128 (pos 0) (lit< tt)

names_are_utf8 : (names : List (List ℕ)) → IsTable names → All IsUtf8 names
names_are_utf8 names table k d within = IsUtf8-from_is_utf8 _ (table.utf8 k (slice_index_or names k d) (slice_get-get_or names k d within))

pub accepted_is_real : (text : List ℕ) (program : PlainProgram) (names : List (List ℕ)) → IsAcceptedText text program names → IsTable names
    → IsRealProgram (record { program = program; names = names })
accepted_is_real text program names is table = record {
  ints = program_ints IsReal nought_is_real is.logical program names is.parsed (lexed_ints text is.logical is.lexed);
  texts = names_are_utf8 names table;
}
