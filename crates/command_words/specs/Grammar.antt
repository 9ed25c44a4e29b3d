-- The grammar of the words behind a command's name: a file, options with their values, and flags, in any order.
use Rattle.std.specs.Prelude.{◌≡◌, ◌==◌, Bool, true, false, not, List, [], ◌∷◌, ◌++◌, codes}
use Rattle.command_words.specs.Parts.{Text, Parts, Given, is_among}

-- a word that isn't empty and doesn't begin with a hyphen
abbrev pub stands_alone : Text → Bool
stands_alone [] = false
stands_alone (b ∷ bs) = not (b == 45)

-- `--name`
abbrev pub long : Text → Text
long name = codes "--" ++ name

-- `=value`
abbrev pub equals : Text → Text
equals value = codes "=" ++ value

-- what words give, one after another: `FILE`, `--name value`, `--name=value`, or a flag by its name alone
pub data Give (parts : Parts) : List Text → List Given → Type 0 where
  nothing : Give parts [] []
  file : {word : Text} {rest : List Text} {gs : List Given} → parts.file ≡ true → stands_alone word ≡ true
      → Give parts rest gs → Give parts (word ∷ rest) ((codes "FILE", word) ∷ gs)
  apart : {name value : Text} {rest : List Text} {gs : List Given} → is_among parts.options name ≡ true → stands_alone value ≡ true
      → Give parts rest gs → Give parts (long name ∷ value ∷ rest) ((name, value) ∷ gs)
  joined : {name value : Text} {rest : List Text} {gs : List Given} → is_among parts.options name ≡ true
      → Give parts rest gs → Give parts ((long name ++ equals value) ∷ rest) ((name, value) ∷ gs)
  flag : {name : Text} {rest : List Text} {gs : List Given} → is_among parts.flags name ≡ true
      → Give parts rest gs → Give parts (long name ∷ rest) ((name, codes "true") ∷ gs)
