-- What a command can be given by words, and what words give.
use Rattle.std.specs.Prelude.{ℕ, ◌&&◌, Bool, true, not, List, [], ◌∷◌, Option, option_map}
use Rattle.std.specs.List.{list_any, find}
use Rattle.std.specs.Str.{bytes_eq}

abbrev pub Text : Type 0
Text = List ℕ

-- what a command can be given: whether a file, and the names of its options and flags
pub record Parts : Type 0 where
  pub file : Bool
  pub options : List Text
  pub flags : List Text

-- a text that is given under a name; a file is given under the name `FILE`, and a flag as `true`
abbrev pub Given : Type 0
Given = Text × Text

abbrev pub is_among : List Text → Text → Bool
is_among names name = list_any (λ n. bytes_eq n name) names

abbrev pub is_given : Text → List Given → Bool
is_given name gs = list_any (λ g. bytes_eq g.0 name) gs

-- each is given at most once
abbrev pub are_apart : List Given → Bool
are_apart [] = true
are_apart (g ∷ gs) = not (is_given g.0 gs) && are_apart gs

-- the text that is given under a name
abbrev pub text_of : Text → List Given → Option Text
text_of name gs = option_map (λ g. g.1) (find (λ g. bytes_eq g.0 name) gs)
