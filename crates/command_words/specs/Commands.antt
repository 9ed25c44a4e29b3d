-- What the words of a call ask for.
use Rattle.std.specs.Prelude.{◌≡◌, ◌⊎◌, ℕ, Bool, false, true, ◌||◌, ◌&&◌, ◌==◌, length, is_some, List, [], ◌∷◌, Option, Some, None, option_map, codes, if◌then◌else◌}
use Rattle.std.specs.Str.{bytes_eq}
use Rattle.command_words.specs.Parts.{Text, Parts, Given, are_apart, text_of}
use Rattle.command_words.specs.Grammar.{Give, stands_alone}
use Rattle.command_words.specs.Numbers.{number_of, count_of, or_usual}
use Rattle.command_words.specs.declared.command.Command.{Command}
use Rattle.command_words.specs.declared.command.Command.TheVariants as command
use Rattle.command_words.specs.declared.command.RunWords.{RunWords}
use Rattle.command_words.specs.declared.command.GenWords.{GenWords}

pub record RunSettings : Type 0 where
  pub batch : ℕ
  pub partitions : ℕ
  pub schedule : ℕ
  pub store : Option Text
  pub every : ℕ
  pub history : ℕ
  pub reorder : Bool
  pub trace : Bool

pub record GenSettings : Type 0 where
  pub number : ℕ
  pub size : ℕ
  pub batch : ℕ
  pub partitions : ℕ

pub data Asked : Type 0 where
  Check : Text → Asked
  Compile : Text → Asked
  Local : Text → Asked
  Run : Text → RunSettings → Asked
  Gen : GenSettings → Asked
  Export : Text → Text → Asked
  Audit : Text → Text → Asked

-- goes on with a value, where there is one
infixl 10 ◌>>?◌
abbrev pub ◌>>?◌ : {A B : Type 0} → Option A → (A → Option B) → Option B
None >>? f = None
(Some x) >>? f = f x

-- ---- what each command can be given

abbrev pub file_parts : Parts
file_parts = record { file = true; options = []; flags = [] }

abbrev pub run_parts : Parts
run_parts = record {
  file = true;
  options = codes "batch" ∷ codes "partitions" ∷ codes "schedule" ∷ codes "store" ∷ codes "every" ∷ codes "history" ∷ [];
  flags = codes "reorder" ∷ codes "trace" ∷ [];
}

abbrev pub gen_parts : Parts
gen_parts = record { file = false; options = codes "number" ∷ codes "size" ∷ codes "batch" ∷ codes "partitions" ∷ []; flags = [] }

abbrev pub export_parts : Parts
export_parts = record { file = true; options = codes "store" ∷ []; flags = [] }

-- ---- the settings, by the texts that are given under names

abbrev pub Texts : Type 0
Texts = Text → Option Text

abbrev pub texts_in : List Given → Texts
texts_in gs name = text_of name gs

abbrev pub batch_in : Texts → Option ℕ
batch_in texts = or_usual (count_of 256) 64 (texts (codes "batch"))

abbrev pub partitions_in : Texts → Option ℕ
partitions_in texts = or_usual (count_of 64) 4 (texts (codes "partitions"))

abbrev pub schedule_in : Texts → Option ℕ
schedule_in texts = or_usual number_of 0 (texts (codes "schedule"))

abbrev pub every_in : Texts → Option ℕ
every_in texts = or_usual (count_of 65535) 64 (texts (codes "every"))

abbrev pub history_in : Texts → Option ℕ
history_in texts = or_usual (count_of 4294967295) 16777216 (texts (codes "history"))

-- a folder is named by a text that isn't empty and isn't `-`
abbrev pub folder_of : Text → Option (Option Text)
folder_of text = if length text == 0 || bytes_eq text (codes "-") then None else Some (Some text)

abbrev pub store_in : Texts → Option (Option Text)
store_in texts = or_usual folder_of None (texts (codes "store"))

-- the folder of a store that must be named
abbrev pub needed_store : Texts → Option Text
needed_store texts = store_in texts >>? (λ store. store)

abbrev pub trace_in : Texts → Bool
trace_in texts = is_some (texts (codes "trace"))

abbrev pub reorder_in : Texts → Bool
reorder_in texts = is_some (texts (codes "reorder"))

abbrev pub number_in : Texts → Option ℕ
number_in texts = texts (codes "number") >>? number_of

abbrev pub size_in : Texts → Option ℕ
size_in texts = texts (codes "size") >>? count_of 100000

unfoldable pub run_settings : Texts → Option RunSettings
run_settings texts =
    batch_in texts >>? (λ batch. partitions_in texts >>? (λ partitions. schedule_in texts >>? (λ schedule. store_in texts >>? (λ store.
    every_in texts >>? (λ every. history_in texts >>? (λ history. Some (record {
      batch = batch;
      partitions = partitions;
      schedule = schedule;
      store = store;
      every = every;
      history = history;
      reorder = reorder_in texts;
      trace = trace_in texts;
    })))))))

unfoldable pub gen_settings : Texts → Option GenSettings
gen_settings texts =
    number_in texts >>? (λ number. size_in texts >>? (λ size. batch_in texts >>? (λ batch. partitions_in texts >>? (λ partitions. Some (record {
      number = number;
      size = size;
      batch = batch;
      partitions = partitions;
    })))))

-- ---- the commands

abbrev pub file_in : Texts → Option Text
file_in texts = texts (codes "FILE")

unfoldable pub with_file : (Text → Asked) → Texts → Option Asked
with_file command texts = option_map command (file_in texts)

abbrev pub run_in : Texts → Option Asked
run_in texts = file_in texts >>? (λ file. option_map (Run file) (run_settings texts))

abbrev pub gen_in : Texts → Option Asked
gen_in texts = option_map Gen (gen_settings texts)

abbrev pub export_in : Texts → Option Asked
export_in texts = file_in texts >>? (λ file. option_map (Export file) (needed_store texts))

-- `audit` takes two words, neither of which begins with a hyphen: the program's file, and that of the run
unfoldable pub audit_of : List Text → Option Asked
audit_of [] = None
audit_of (file ∷ []) = None
audit_of (file ∷ run ∷ []) = if stands_alone file && stands_alone run then Some (Audit file run) else None
audit_of (file ∷ run ∷ word ∷ more) = None

-- of each command but `audit` its name, what it can be given, and what it asks for by the texts that are given
pub record Form : Type 0 where
  pub name : Text
  pub parts : Parts
  pub read : Texts → Option Asked

abbrev pub forms : List Form
forms =
    record { name = codes "check"; parts = file_parts; read = with_file Check }
    ∷ record { name = codes "compile"; parts = file_parts; read = with_file Compile }
    ∷ record { name = codes "local"; parts = file_parts; read = with_file Local }
    ∷ record { name = codes "run"; parts = run_parts; read = run_in }
    ∷ record { name = codes "gen"; parts = gen_parts; read = gen_in }
    ∷ record { name = codes "export"; parts = export_parts; read = export_in }
    ∷ []

-- words that give texts, each name once, of which something is made
abbrev pub AskWith : {X : Type 0} → Parts → (Texts → Option X) → List Text → X → Type 0
AskWith parts read words x = (gs : List Given) × Give parts words gs × (are_apart gs ≡ true) × (read (texts_in gs) ≡ Some x)

-- what the words behind the name of one of these commands ask for
abbrev pub AskOneOf : List Form → Text → List Text → Asked → Type 0
AskOneOf [] name words asked = ⊥
AskOneOf (form ∷ more) name words asked = ((name ≡ form.name) × AskWith form.parts form.read words asked) ⊎ AskOneOf more name words asked

-- what the words of a call ask for, the first of them being the command's name
abbrev pub Ask : List Text → Asked → Type 0
Ask [] asked = ⊥
Ask (name ∷ words) asked = AskOneOf forms name words asked ⊎ ((name ≡ codes "audit") × (audit_of words ≡ Some asked))

-- ---- a command as it was read from the words

abbrev pub settings_by : RunWords → RunSettings
settings_by w = record {
  batch = w.batch;
  partitions = w.partitions;
  schedule = w.schedule;
  store = option_map (λ t. t.now) w.store;
  every = w.every;
  history = w.history;
  reorder = w.reorder;
  trace = w.trace;
}

abbrev pub work_by : GenWords → GenSettings
work_by w = record { number = w.number; size = w.size; batch = w.batch; partitions = w.partitions }

abbrev pub asked_by : Command → Asked
asked_by (command.Check file) = Check file.now
asked_by (command.Compile file) = Compile file.now
asked_by (command.Local file) = Local file.now
asked_by (command.Run file settings) = Run file.now (settings_by settings)
asked_by (command.Gen settings) = Gen (work_by settings)
asked_by (command.Export file store) = Export file.now store.now
asked_by (command.Audit file run) = Audit file.now run.now
