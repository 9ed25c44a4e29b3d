pub mod BankAccepted
