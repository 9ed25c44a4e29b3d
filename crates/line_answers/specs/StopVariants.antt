-- The variants of `Stop`, which the crates above this one name from here.
pub use Rattle.batch_replies.specs.declared.stops.Stop.TheVariants.{DiskFault, HistoryFull, NoMemory, WriteFault}
