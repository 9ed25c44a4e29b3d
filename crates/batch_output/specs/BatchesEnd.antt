-- At the end of its input a session that serves in batches leaves nothing to do.
use Rattle.std.specs.Prelude.{◌≡◌, false, List, []}
use Rattle.program_meaning.specs.ClassTables.{Source}
use Rattle.serial_order.specs.ConflictFree.{Access}
use Rattle.reservations.specs.CommitRules.{Chosen}
use Rattle.request_json.specs.Actions.{Line}
use Rattle.engine.specs.Cores.{Core}
use Rattle.batch_output.specs.BatchOutput.{Limits, begun, after, at_end, Standing}
use Rattle.batch_output.specs.SerialBatches.{MayBegin}

-- behind the end of an input of these lines
abbrev pub last_standing : Source → (List Access → Chosen) → Limits → Core → List Line → Standing
last_standing src rule limits core lines = at_end src rule limits (after src rule limits (begun core) lines)

-- where the session didn't stop since its history is full, nothing waits any more
abbrev pub BatchesEnd : Type 0
BatchesEnd = (src : Source) (rule : List Access → Chosen) (limits : Limits) (core : Core) → MayBegin src rule limits core → (lines : List Line)
    → (last_standing src rule limits core lines).is_full ≡ false → (last_standing src rule limits core lines).core.pending ≡ []
