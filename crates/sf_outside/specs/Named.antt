-- What files in memory show.
use Rattle.std.specs.Prelude.{ℕ, List, [], ◌∷◌, None, Some, bytes_eq, if◌then◌else◌}
use Rattle.std.specs.declared.option.Option.{Option}

-- a file: its name in UTF-8, its bytes, and how many calls with this name failed
pub record FileState : Type 0 where
  pub name : List ℕ
  pub bytes : List ℕ
  pub faults : ℕ

-- the files, how many calls failed with names that none of them has, the calls that are to fail and how many calls there were
pub record FilesState : Type 0 where
  pub files : List FileState
  pub other_faults : ℕ
  pub fail_at : List ℕ
  pub calls : ℕ

-- what the first thing of this name has, or else this
abbrev pub value_named : {X V : Type 0} → (X → List ℕ) → (X → V) → V → List X → List ℕ → V
value_named name value other [] q = other
value_named name value other (x ∷ xs) q = if bytes_eq (name x) q then value x else value_named name value other xs q

-- the bytes of the first file of this name
abbrev pub content_of : List FileState → List ℕ → Option (List ℕ)
content_of files name = value_named (λ file. file.name) (λ file. Some file.bytes) None files name

-- how many calls with this name failed: names that no file has share one count
abbrev pub faults_of : ℕ → List FileState → List ℕ → ℕ
faults_of others files name = value_named (λ file. file.name) (λ file. file.faults) others files name

abbrev pub faults_at : FilesState → List ℕ → ℕ
faults_at files name = faults_of files.other_faults files.files name

-- files as they are listed, each name beside its bytes
abbrev pub listed : List (List ℕ) → List (List ℕ) → List FileState
listed [] contents = []
listed (name ∷ names) [] = []
listed (name ∷ names) (bytes ∷ contents) = record { name = name; bytes = bytes; faults = 0 } ∷ listed names contents
