pub mod BatchOutput
pub mod SerialBatches
pub mod BatchesEnd
pub mod RequestsKept
pub mod Vocabulary
