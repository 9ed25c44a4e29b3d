pub mod Repeats
pub mod HistoryView
pub mod SoundHistory
