-- What words ask for, by what is found in them.
use Rattle.std.proofs.Common.{◌≡◌, List, Option, Some, None, refl, sym}
use Rattle.std.specs.Prelude.{Ok, option_map}
use Rattle.clap.specs.Words.{first_value, found_of}
use Rattle.clap.specs.declared.parser.matches.ArgMatches.{ArgMatches}
use Rattle.command_words.specs.WordReading.{Text, Parts, Given, given}
use Rattle.command_words.specs.Commands.{Texts, texts_in, Asked, with_file, file_parts, file_in, ◌>>?◌}
use Rattle.command_words.specs.CommandReading.{asked_with}
use Rattle.command_words.specs.Readings.{Finds}

-- a reading of the texts that are found is a reading of those that are given
pub told : {X : Type 0} (parts : Parts) (read : Texts → Option X) (words : List Text) (m : ArgMatches) → Finds (given parts words) (Ok m)
    → asked_with parts read words ≡ read (first_value (found_of m))
unfolding asked_with
told parts read words m h = by (given parts words) h
  where
    by : (o : Option (List Given)) → Finds o (Ok m) → (o >>? (λ gs. read (texts_in gs))) ≡ read (first_value (found_of m))
    by None bad = absurd bad
    by (Some gs) has = λ i. read (λ name. sym (has name) i)

-- a command that takes a file and nothing else asks for what it makes of the file
pub of_file : (command : Text → Asked) (words : List Text) → asked_with file_parts (with_file command) words ≡ option_map command (asked_with file_parts file_in words)
unfolding asked_with with_file
of_file command words = by (given file_parts words)
  where
    by : (o : Option (List Given)) → (o >>? (λ gs. option_map command (file_in (texts_in gs)))) ≡ option_map command (o >>? (λ gs. file_in (texts_in gs)))
    by None = refl
    by (Some gs) = refl
