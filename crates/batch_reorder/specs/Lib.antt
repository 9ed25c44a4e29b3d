pub mod Conflicts
pub mod ReorderedBatch
pub mod Reordering
pub mod MeetingLaws
pub mod ReorderingLaws
pub mod ReorderedSerial
pub mod Turns
