-- Why a store isn't opened, by what stopped below.
use Rattle.std.specs.Prelude.{ℕ}
use Rattle.sf_outside.specs.declared.store_disk.MountFault.{MountFault}
use Rattle.sf_outside.specs.declared.store_disk.MountFault.TheVariants as of_mount
use Rattle.snapshot_store.specs.SlotFile.{slot_of, log_of}
use Rattle.recovery.specs.declared.fault.OpenFault.{OpenFault}
use Rattle.recovery.specs.declared.fault.OpenFault.TheVariants as of_files
use Rattle.engine.specs.declared.restore_error.RestoreError.{RestoreError}
use Rattle.engine.specs.declared.restore_error.RestoreError.TheVariants as of_snapshot
use Rattle.store_opening.specs.declared.replaying.ReplayStop.{ReplayStop}
use Rattle.store_opening.specs.declared.replaying.ReplayStop.TheVariants as of_log
use Rattle.store_opening.specs.declared.stop.OpenStop.{OpenStop}
use Rattle.store_opening.specs.declared.stop.OpenStop.TheVariants.{DiskFault, Bad, NoMemory}

abbrev pub mount_stop : MountFault → OpenStop
mount_stop of_mount.Failed = DiskFault
mount_stop of_mount.NoMemory = NoMemory

abbrev pub reopen_stop : OpenFault → OpenStop
reopen_stop of_files.Failed = DiskFault
reopen_stop (of_files.Bad file at) = Bad file at
reopen_stop of_files.NoMemory = NoMemory

-- a snapshot that the program can't take is bad at the start of its slot
abbrev pub restore_stop : ℕ → RestoreError → OpenStop
restore_stop epoch of_snapshot.Wrong = Bad (slot_of epoch) 0
restore_stop epoch of_snapshot.NoMemory = NoMemory

-- a batch that can't follow is bad at its place in the log
abbrev pub replay_stop : ℕ → ReplayStop → OpenStop
replay_stop epoch (of_log.Wrong at) = Bad (log_of epoch) at
replay_stop epoch of_log.NoMemory = NoMemory
