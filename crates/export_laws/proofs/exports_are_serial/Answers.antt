use Rattle.export_laws.proofs.SerialExports.{exports_serial}
use Rattle.export_laws.proofs.exports_are_serial.Goals as goal

pub returns : goal.returns
returns c = exports_serial
