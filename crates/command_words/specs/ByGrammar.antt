-- Words are read as their grammar says.
use Rattle.std.specs.Prelude.{◌≡◌, ◌↔◌, List, Some}
use Rattle.command_words.specs.WordReading.{Text}
use Rattle.command_words.specs.Commands.{Asked, Ask}
use Rattle.command_words.specs.CommandReading.{asked}

-- what is read of words is what they ask for, and all that they ask for is read
abbrev pub WordsAreReadByGrammar : Type 0
WordsAreReadByGrammar = (words : List Text) (a : Asked) → (asked words ≡ Some a) ↔ Ask words a
