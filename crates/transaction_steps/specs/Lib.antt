pub mod Transactions
pub mod EnoughBlocks
pub mod GoingOn
