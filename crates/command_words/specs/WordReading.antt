-- How words are read from left to right, by the grammar of words.
use Rattle.std.specs.Prelude.{ℕ, ◌==◌, Bool, true, false, List, [], ◌∷◌, Option, Some, None, option_map, option_and_then, codes, if◌then◌else◌}
use Rattle.std.specs.List.{list_all, list_any, before_first, after_first}
pub use Rattle.command_words.specs.Parts.{Text, Parts, Given, is_among, is_given, are_apart, text_of}

-- a word that stands by itself, a name with the value that an equals sign joins to it, or no word of a command
pub data Form : Type 0 where
  Plain : Form
  Named : Text → Option Text → Form
  Neither : Form

abbrev pub is_equals : ℕ → Bool
is_equals byte = byte == 61

-- `name` or `name=value`
abbrev pub name_form : Text → Form
name_form [] = Neither
name_form (b ∷ bs) = Named (before_first is_equals (b ∷ bs)) (if list_any is_equals (b ∷ bs) then Some (after_first is_equals (b ∷ bs)) else None)

-- what stands behind one hyphen
abbrev pub hyphen_form : Text → Form
hyphen_form [] = Neither
hyphen_form (b ∷ bs) = if b == 45 then name_form bs else Neither

-- `--name`, `--name=value`, or a word that doesn't begin with a hyphen
abbrev pub form_of : Text → Form
form_of [] = Neither
form_of (b ∷ bs) = if b == 45 then hyphen_form bs else Plain

-- what a word says: it gives something, it is an option whose value is the next word, or it says nothing that the command knows
pub data Says : Type 0 where
  Gives : Given → Says
  Wants : Text → Says
  Nothing : Says

abbrev pub said_by : Parts → Text → Form → Says
said_by parts word Plain = if parts.file then Gives (codes "FILE", word) else Nothing
said_by parts word (Named name (Some value)) = if is_among parts.options name then Gives (name, value) else Nothing
said_by parts word (Named name None) =
    if is_among parts.options name then Wants name
    else (if is_among parts.flags name then Gives (name, codes "true") else Nothing)
said_by parts word Neither = Nothing

abbrev pub joined : Says → Option (List Given) → (Text → Option (List Given)) → Option (List Given)
joined (Gives g) rest wanting = option_map (λ gs. g ∷ gs) rest
joined (Wants name) rest wanting = wanting name
joined Nothing rest wanting = None

-- a value in a word of its own doesn't begin with a hyphen
abbrev pub behind_name : Text → Text → Form → Option (List Given) → Option (List Given)
behind_name name word Plain rest = option_map (λ gs. (name, word) ∷ gs) rest
behind_name name word _ rest = None

-- what the words give, in their order, where an option before them may want its value
abbrev pub given_from : Parts → Option Text → List Text → Option (List Given)
given_from parts None [] = Some []
given_from parts (Some name) [] = None
given_from parts None (word ∷ rest) =
    joined (said_by parts word (form_of word)) (given_from parts None rest) (λ name. given_from parts (Some name) rest)
given_from parts (Some name) (word ∷ rest) = behind_name name word (form_of word) (given_from parts None rest)

abbrev pub if_apart : List Given → Option (List Given)
if_apart gs = if are_apart gs then Some gs else None

-- what the words give, where they are words of a command with these parts
abbrev pub given : Parts → List Text → Option (List Given)
given parts words = option_and_then if_apart (given_from parts None words)

-- a word of some command: by itself, or with a name
abbrev pub is_formed : Form → Bool
is_formed Neither = false
is_formed _ = true

abbrev pub are_formed : List Text → Bool
are_formed words = list_all (λ word. is_formed (form_of word)) words
