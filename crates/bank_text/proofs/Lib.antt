pub mod Readers
pub mod LineReaders
pub mod ExpressionReaders
pub mod StatementReaders
pub mod ProgramReaders
pub mod BankText
