-- Blocks with those of their parameters alone that are among some names.
use Rattle.std.specs.Prelude.{ℕ, List, filter}
use Rattle.block_code.specs.PlainVars.{PlainVar}
use Rattle.live_vars.specs.Saved.{has}

unfoldable pub kept_of : List ℕ → List PlainVar → List PlainVar
kept_of names params = filter (λ p. has names p.name) params
