pub mod Buffered
pub mod Touches
pub mod HandingOver
