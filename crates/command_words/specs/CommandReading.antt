-- What the words of a call ask for, as they are read.
use Rattle.std.specs.Prelude.{List, [], ◌∷◌, Option, None, codes, if◌then◌else◌}
use Rattle.std.specs.Str.{bytes_eq}
use Rattle.command_words.specs.WordReading.{Text, Parts, given}
use Rattle.command_words.specs.Commands.{Texts, texts_in, Asked, Form, forms, audit_of, ◌>>?◌}

-- what a reading of texts makes of words for a command with these parts
unfoldable pub asked_with : {X : Type 0} → Parts → (Texts → Option X) → List Text → Option X
asked_with parts read words = given parts words >>? (λ gs. read (texts_in gs))

-- what words ask for that stand behind a name, by the first of these commands that has the name
abbrev pub asked_of : List Form → Text → List Text → Option Asked
asked_of [] name words = None
asked_of (form ∷ more) name words = if bytes_eq name form.name then asked_with form.parts form.read words else asked_of more name words

unfoldable pub asked_by_name : Text → List Text → Option Asked
asked_by_name name words = if bytes_eq name (codes "audit") then audit_of words else asked_of forms name words

-- what the words of a call ask for, the first of them being the command's name
abbrev pub asked : List Text → Option Asked
asked [] = None
asked (name ∷ words) = asked_by_name name words
