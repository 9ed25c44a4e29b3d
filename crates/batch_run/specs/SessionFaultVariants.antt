-- The variants of `SessionFault`, which the crates above this one name from here.
pub use Rattle.batch_session.specs.declared.serving.SessionFault.TheVariants.{DiskFault, HistoryFull, InputTooLong, NoMemory, ReadFault, WriteFault}
