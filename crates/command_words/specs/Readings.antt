-- What is read of words, or why nothing is.
use Rattle.std.specs.Prelude.{◌≡◌, List, [], Option, Some, None, Result, Ok, Err}
use Rattle.clap.specs.Words.{App, fault_of, first_value, found_of, matches_of, rows_of}
use Rattle.clap.specs.declared.parser.matches.ArgMatches.{ArgMatches}
use Rattle.clap.specs.declared.error.kind.ErrorKind.{ErrorKind}
use Rattle.clap.specs.declared.error.kind.ErrorKind.TheVariants as kind
use Rattle.command_words.specs.WordReading.{Text, Given, text_of}
use Rattle.command_words.specs.declared.command.WordsError.{WordsError}
use Rattle.command_words.specs.declared.command.WordsError.TheVariants.{Usage, NoMemory}

-- Ok is the one thing that is asked for; where nothing is it is Usage, and at no other time; memory may always run out
abbrev pub ReadsOnly : {T X : Type 0} → (T → X) → (X → Type 0) → Result T WordsError → Type 0
ReadsOnly {T} {X} view asked (Ok x) = asked (view x) × ((other : X) → asked other → other ≡ view x)
ReadsOnly {T} {X} view asked (Err Usage) = (other : X) → asked other → ⊥
ReadsOnly {T} {X} view asked (Err NoMemory) = Unit {0}

-- the same, where what is asked for is read
abbrev pub Reads : {T X : Type 0} → (T → X) → Option X → Result T WordsError → Type 0
Reads view asked (Ok x) = asked ≡ Some (view x)
Reads view asked (Err Usage) = asked ≡ None
Reads view asked (Err NoMemory) = Unit {0}

-- what `clap` finds: no fault and the matches, or a fault
abbrev pub Matches : App → List Text → Result ArgMatches WordsError → Type 0
Matches app words (Ok m) = (fault_of app words ≡ []) × (rows_of (found_of m) ≡ matches_of app words)
Matches app words (Err Usage) = fault_of app words ≡ [] → ⊥
Matches app words (Err NoMemory) = Unit {0}

-- an error of `clap` is want of memory, or a fault of the words
abbrev pub usage_or_memory : ErrorKind → WordsError
usage_or_memory kind.OutOfMemory = NoMemory
usage_or_memory _ = Usage

-- matches that have the texts which are given
abbrev pub HasTexts : List Given → ArgMatches → Type 0
HasTexts gs m = (name : Text) → first_value (found_of m) name ≡ text_of name gs

-- matches of words that give these texts, or Usage where they give nothing
abbrev pub Finds : Option (List Given) → Result ArgMatches WordsError → Type 0
Finds None (Ok m) = ⊥
Finds (Some gs) (Ok m) = HasTexts gs m
Finds o (Err Usage) = o ≡ None
Finds o (Err NoMemory) = Unit {0}
