pub mod Suspending
pub mod Marks
pub mod SuspendingCode
