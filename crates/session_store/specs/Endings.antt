-- What a disk keeps behind a call of a session, by whether it failed in the call.
use Rattle.std.specs.Prelude.{◌⊎◌, Bool, true, false, List, ⊤, None, Some}
use Rattle.std.specs.declared.option.Option.{Option}
use Rattle.sf_outside.specs.DiskModel.{DiskFacts, LeavesOnly}
use Rattle.program_meaning.specs.ClassTables.{Source}
use Rattle.serial_order.specs.ConflictFree.{Access}
use Rattle.reservations.specs.CommitRules.{Chosen}
use Rattle.store_meaning.specs.Vocabulary.{after_batch, Core, accesses_on}
use Rattle.session_store.specs.declared.store.Store.{Store}
use Rattle.session_store.specs.Stores.{program_with, Keeps, StandsSomewhere, LeavesEither}

-- the core behind the batch of all that wait
abbrev pub next_core : (List Access → Chosen) → Source → Core → Core
next_core rule src core = after_batch src core (rule (accesses_on src core)).committed

-- of this core, of which the requests that came since the last batch aren't logged; where the disk failed, the next core may be there already
abbrev pub KeepsWhere : Bool → Option Store → Source → Core → Core → DiskFacts → Type 0
KeepsWhere false store src core next facts = Keeps store src core facts
KeepsWhere true store src core next facts = LeavesEither store src core next facts

-- at each moment of a call each image that a crash may leave stands for this core or for the next one
abbrev pub LeavesMeanwhile : Option Store → Source → Core → Core → DiskFacts → DiskFacts → Type 0
LeavesMeanwhile None src core next old new = ⊤
LeavesMeanwhile (Some store) src core next old new =
    LeavesOnly old new (λ image. StandsSomewhere (program_with store src) image core ⊎ StandsSomewhere (program_with store src) image next)
