-- What a refusal says of what was kept.
use Rattle.std.specs.Prelude.{⊤}
use Rattle.engine.specs.declared.restore_error.RestoreError.{RestoreError}
use Rattle.engine.specs.declared.restore_error.RestoreError.TheVariants.{Wrong, NoMemory}

-- it is called wrong only where it doesn't fit; want of memory says nothing
abbrev pub IsCause : Type 0 → RestoreError → Type 0
IsCause fits Wrong = fits → ⊥
IsCause fits NoMemory = ⊤
