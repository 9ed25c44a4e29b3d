pub mod CommittedSerial
