-- What the compact text of plain data is.
use Rattle.std.specs.Prelude.{◌≡◌, ℕ, ◌≤◌, List, Some}
use Rattle.std.specs.List.{All}
use Rattle.std.specs.Str.{IsUtf8}
use Rattle.serde_json.specs.Data.{Data, depth}
use Rattle.serde_json.specs.Read.{max_depth, read}
use Rattle.serde_json.specs.Written.{compact_text}
use Rattle.json_texts.specs.PlainData.{IsPlain}

-- plain data that nest no deeper than a reader goes are read back from their text
abbrev pub TextsReadBack : Type 0
TextsReadBack = (d : Data) → IsPlain d → depth d ≤ max_depth → read (compact_text d) ≡ Some d

abbrev pub TextsAreUtf8 : Type 0
TextsAreUtf8 = (d : Data) → IsPlain d → IsUtf8 (compact_text d)

-- no byte is a control character, as LF and CR are
abbrev pub IsVisible : ℕ → Type 0
IsVisible byte = 32 ≤ byte

abbrev pub TextsAreLines : Type 0
TextsAreLines = (d : Data) → IsPlain d → All IsVisible (compact_text d)
