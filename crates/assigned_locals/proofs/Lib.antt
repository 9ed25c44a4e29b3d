pub mod SureNames
pub mod ExpressionsRead
pub mod BreaksStay
pub mod StatementsRead
pub mod AssignedLocals
