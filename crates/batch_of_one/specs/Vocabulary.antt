-- The definitions of lower crates that the crates above this one name from here.
pub use Rattle.batch_output.specs.BatchOutput.{Standing, all_replies, begun, replies}
pub use Rattle.batch_output.specs.SerialBatches.{IsLawfulRule}
