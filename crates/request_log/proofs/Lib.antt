pub mod Crashes
pub mod Logs
pub mod Records
pub mod Steps
