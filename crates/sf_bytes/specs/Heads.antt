-- When bytes are a head's. It is a relation, and no function of the head.
use Rattle.std.specs.Prelude.{◌≡◌, ℕ, List as Items}
use Rattle.sf_value.specs.declared.heads.Head.{Head}
use Rattle.sf_bytes.specs.ByteForms.{head_bytes}
use Rattle.sf_bytes.specs.Spelt.{IsReadHead}

-- the bytes are a spelling of the head, with none behind it
abbrev pub IsHead : Items ℕ → Head → Type 0
IsHead body head = IsReadHead head × (head_bytes head ≡ body)
