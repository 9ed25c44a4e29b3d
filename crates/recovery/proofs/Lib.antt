pub mod Logs
pub mod NamedEntries
pub mod OneLog
pub mod OneStore
pub mod StoreLogs
pub mod StoreSteps
