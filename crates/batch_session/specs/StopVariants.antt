-- The variants of `Stop`, which the crates above this one name from here.
pub use Rattle.session_steps.specs.StopVariants.{DiskFault, HistoryFull, NoMemory, WriteFault}
