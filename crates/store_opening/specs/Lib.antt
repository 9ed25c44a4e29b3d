pub mod Stops
pub mod Replayed
pub mod OpenedStores
pub mod Openings
pub mod Findings
