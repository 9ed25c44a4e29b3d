use Rattle.serial_order.proofs.SerialOrder.{conflict_free_serial}
use Rattle.serial_order.proofs.laws.conflict_free_is_serial.Goals as goal

pub returns : goal.returns
returns c = conflict_free_serial
