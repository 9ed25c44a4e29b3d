-- What the devices of a call show at a moment.
use Rattle.std.specs.Prelude.{ℕ, ◌≡◌, List}
use Rattle.std.specs.declared.option.Option.{Option}
use Rattle.std.specs.Io.KnownBytes.{Keeps}
use Rattle.sf_outside.specs.Choices.{Choices}
use Rattle.sf_outside.specs.DiskModel.{Image, Mounts}
use Rattle.operator_graph.specs.Telling.{Told}
use Rattle.operator_graph.specs.Turns.{Outside}

-- what is left of an input, and its count of faults
pub record Input : Type 0 where
  pub left : Option (List ℕ)
  pub faults : ℕ

-- what an output holds, what of that it handed on, and its count of faults
pub record Output : Type 0 where
  pub held : Option (List ℕ)
  pub handed : Option (List ℕ)
  pub faults : ℕ

-- what a read of a disk gives after a mount of each name, where that is told; its count of faults; and its mounts
pub record StoreDisk : Type 0 where
  pub found : List ℕ → Option Image
  pub faults : ℕ
  pub mounts : Mounts

-- the files' content and their counts of faults by name, the input, the output, the error stream, what was chosen and told, and the disk
pub record Devices : Type 0 where
  pub content : List ℕ → Option (List ℕ)
  pub file_faults : List ℕ → ℕ
  pub input : Input
  pub out : Output
  pub err : Output
  pub outside : Outside
  pub disk : StoreDisk

abbrev pub source : Option (List ℕ) → ℕ → Input
source left faults = record { left = left; faults = faults }

abbrev pub sink : Option (List ℕ) → Option (List ℕ) → ℕ → Output
sink held handed faults = record { held = held; handed = handed; faults = faults }

abbrev pub outside : Option Choices → Option (List Told) → Outside
outside choices told = record { choices = choices; told = told }

abbrev pub store_disk : (List ℕ → Option Image) → ℕ → Mounts → StoreDisk
store_disk found faults mounts = record { found = found; faults = faults; mounts = mounts }

abbrev pub devices : (List ℕ → Option (List ℕ)) → (List ℕ → ℕ) → Input → Output → Output → Outside → StoreDisk → Devices
devices content file_faults input out err out_side disk =
    record { content = content; file_faults = file_faults; input = input; out = out; err = err; outside = out_side; disk = disk }

-- the same, but for the error stream
abbrev pub with_err : Output → Devices → Devices
with_err err d =
    record { content = d.content; file_faults = d.file_faults; input = d.input; out = d.out; err = err; outside = d.outside; disk = d.disk }

-- nothing was taken from the input, and the output gained nothing
pub record IsIdle (before after : Devices) : Type 0 where
  pub left : Keeps before.input.left after.input.left
  pub held : Keeps before.out.held after.out.held

-- besides nothing was said, chosen and told
pub record IsStill (before after : Devices) : Type 0 where
  pub idle : IsIdle before after
  pub err : after.err ≡ before.err
  pub outside : after.outside ≡ before.outside

-- the files and the input are as they were
pub record AreUnread (before after : Devices) : Type 0 where
  pub content : after.content ≡ before.content
  pub file_faults : after.file_faults ≡ before.file_faults
  pub input : after.input ≡ before.input
