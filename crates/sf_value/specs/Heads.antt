-- What a head and a history make together.
use Rattle.std.specs.Prelude.{List}
use Rattle.sf_value.specs.declared.Entry.{Entry}
use Rattle.sf_value.specs.declared.Snapshot.{Snapshot}
use Rattle.sf_value.specs.declared.heads.Head.{Head}

-- the snapshot of this head, whose history is these entries
abbrev pub snapshot_of : Head → List Entry → Snapshot
snapshot_of head entries = record { program = head.program; history = entries; records = head.records; pending = head.pending }
