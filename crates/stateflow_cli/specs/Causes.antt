-- Why a call has its status.
use Rattle.std.specs.Prelude.{ℕ, ◌≡◌, ◌≤◌, ◌<◌, ◌⊎◌, Bool, true, false, List, length, Some, IfSome}
use Rattle.std.specs.declared.option.Option.{Option}
use Rattle.sf_outside.specs.Causes.{Rose}
use Rattle.program_meaning.specs.ClassTables.{Source}
use Rattle.program_text.specs.declared.fault.ProgramFault.{ProgramFault}
use Rattle.stateflow_cli.specs.Devices.{Devices}
use Rattle.stateflow_cli.specs.Loading.{Holds, Refuses, source_in}

-- A status has its cause, unless it tells a fault. And a cause has its status, where all is told that it speaks of, unless the status tells a fault.
pub record HasItsStatus (Cause Known Fault : ℕ → Type 0) (status : ℕ) : Type 0 where
  pub only : Cause status ⊎ Fault status
  pub all : (k : ℕ) → Cause k → Known k → (status ≡ k) ⊎ Fault status

-- ---- faults

-- A fault was counted, of what is read, of the output or the error stream, or of what is stored; or memory was wanted, of which nothing is counted.
pub data IsFault (Unread Unstored : Type 0) (before after : Devices) (status : ℕ) : Type 0 where
  WasUnread : status ≡ 3 → Unread → IsFault Unread Unstored before after status
  WasUnwritten : status ≡ 4 → Rose before.out.faults after.out.faults ⊎ Rose before.err.faults after.err.faults → IsFault Unread Unstored before after status
  WasUnstored : status ≡ 5 → Unstored → IsFault Unread Unstored before after status
  WantedMemory : status ≡ 8 → IsFault Unread Unstored before after status

-- a fault of the file was counted, or one of the input
abbrev pub FileRose : List ℕ → Devices → Devices → Type 0
FileRose file before after = Rose (before.file_faults file) (after.file_faults file)

abbrev pub ServedRose : List ℕ → Devices → Devices → Type 0
ServedRose file before after = FileRose file before after ⊎ Rose before.input.faults after.input.faults

-- ---- causes, in the order in which they are looked for

-- The text of a file has a fault; or it is accepted, and then what comes of its program decides.
pub data OfText (content : Option (List ℕ)) (Next : Source → List ℕ → ℕ → Type 0) (status : ℕ) : Type 0 where
  HasNoProgram : (fault : ProgramFault) → status ≡ 1 → Refuses content fault → OfText content Next status
  HasProgram : (holds : Holds content) → Next (source_in content holds) holds.holds.text status → OfText content Next status

-- the input that was left, where that is told, is no longer than the limit, or it is; and the history comes to be full for it, or not
abbrev pub Fits : ℕ → (List ℕ → Bool) → Devices → Type 0
Fits limit fills before = IfSome before.input.left (λ all. (length all ≤ limit) × (fills all ≡ false))

abbrev pub Exceeds : ℕ → (List ℕ → Bool) → Devices → Type 0
Exceeds limit fills before = IfSome before.input.left (λ all. (limit < length all) × (fills all ≡ false))

abbrev pub Fills : (List ℕ → Bool) → Devices → Type 0
Fills fills before = IfSome before.input.left (λ all. fills all ≡ true)

-- All of the input is served; or there is more of it than is taken; or the history comes to be full before.
pub data OfInput (limit : ℕ) (fills : List ℕ → Bool) (before : Devices) (status : ℕ) : Type 0 where
  ServesAll : status ≡ 0 → Fits limit fills before → OfInput limit fills before status
  TakesNoMore : status ≡ 9 → Exceeds limit fills before → OfInput limit fills before status
  KeepsNoMore : status ≡ 10 → Fills fills before → OfInput limit fills before status

-- ---- what is told

abbrev pub IsTold : {X : Type 0} → Option X → Type 0
IsTold {X} o = (x : X) × (o ≡ Some x)

-- What a cause with this status speaks of is told: the text of the file; but for a fault of the text what was found in the folder that is named; and
-- where a session comes to its end, its input.
pub record IsToldFor (file : List ℕ) (store : Option (List ℕ)) (before : Devices) (status : ℕ) : Type 0 where
  pub text : IsTold (before.content file)
  pub found : (status ≡ 1 → ⊥) → (dir : List ℕ) → store ≡ Some dir → IsTold (before.disk.found dir)
  pub input : (status ≡ 1 → ⊥) → (status ≡ 6 → ⊥) → (status ≡ 7 → ⊥) → IsTold before.input.left
