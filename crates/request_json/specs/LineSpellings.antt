-- What a line asks can be stored.
use Rattle.std.specs.Prelude.{◌≡◌, ◌≤◌, ◌+◌, ◌*◌, ℕ, List, length, Ok}
use Rattle.py_tree.specs.PlainProgram.{PlainProgram}
use Rattle.sf_value.specs.declared.Request.{Request}
use Rattle.byte_sizes.specs.Sizes.{request_size}
use Rattle.byte_sizes.specs.Spelt.{IsReadRequest}
use Rattle.program_meaning.specs.NothingGoesWrong.{IsKnownAccepted}
use Rattle.request_json.specs.RequestLines.{longest, reading_of}

-- a request has a spelling, of at most so many bytes
pub record HasSpelling (most : ℕ) (r : Request) : Type 0 where
  pub spelt : IsReadRequest r
  pub short : request_size r ≤ most

-- the request that a line is for an accepted program has a spelling, of at most nine times the line's bytes and 100 more
abbrev pub LinesHaveSpellings : Type 0
LinesHaveSpellings =
    (names : List (List ℕ)) (program : PlainProgram) → IsKnownAccepted names program → (line : List ℕ) (r : Request) → length line ≤ longest
    → reading_of (record { program = program; names = names }) line ≡ Ok r → HasSpelling (9 * length line + 100) r
