-- String literals and escapes, read by their definitions.
use Rattle.std.proofs.Common.{◌≡◌, [], Some, None, refl}
use Rattle.std.specs.Prelude.{codes}
use Rattle.std.specs.Str.{chars}
use Rattle.py_tree.specs.StringText.{escape, string_text}

empty : string_text (codes "''") ≡ []
unfolding chars
empty = refl

-- a line end within three quotes
lines : string_text (codes "'''a\r\nb'''") ≡ codes "a\nb"
unfolding chars
lines = refl

-- an A and an é by their codes, and no lone surrogate
by_code : escape (codes "x41'") ≡ Some (65, 3)
by_code = refl

by_long_code : escape (codes "u00E9") ≡ Some (233, 5)
by_long_code = refl

surrogate : escape (codes "uD800") ≡ None
surrogate = refl

cut : escape (codes "x4'") ≡ None
cut = refl

octal : escape (codes "0") ≡ None
octal = refl
