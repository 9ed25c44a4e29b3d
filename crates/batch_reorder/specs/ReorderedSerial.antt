-- The committed requests of a reordered batch are a serial run in the order that is listed.
use Rattle.std.specs.Prelude.{List}
use Rattle.sf_value.specs.declared.Act.{Act}
use Rattle.program_meaning.specs.ClassTables.{Source}
use Rattle.program_meaning.specs.World.{State}
use Rattle.keyed_state.specs.declared.Work.{Work}
use Rattle.reservations.specs.Accesses.{accesses_of}
use Rattle.commit_order.specs.CommittedSerial.{AreWorksOf, IsSerial}
use Rattle.batch_reorder.specs.Reordering.{reordered}

abbrev pub ReorderedIsSerial : Type 0
ReorderedIsSerial = (src : Source) (snapshot : State) (batch : List Act) (works : List Work) → AreWorksOf src snapshot batch works → IsSerial src snapshot batch works (reordered (accesses_of works)).committed
