pub mod Later
pub mod Paired
pub mod FramedCode
pub mod FramedCalls
pub mod FramedRuns
pub mod SerialOrder
mod Examples
