-- The variants of `Stop`, which the crates above this one name from here.
pub use Rattle.line_answers.specs.StopVariants.{DiskFault, HistoryFull, NoMemory, WriteFault}
