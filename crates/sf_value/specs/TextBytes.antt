-- The bytes that a text is kept as, wherever they lie.
use Rattle.std.specs.Prelude.{ℕ, List, string_bytes}
use Rattle.sf_value.specs.declared.text.Kept.{Kept}
use Rattle.sf_value.specs.declared.text.Kept.TheVariants.{Short, Long}

abbrev pub kept_bytes : Kept → List ℕ
kept_bytes (Short text) = text.bytes
kept_bytes (Long text) = string_bytes text
