pub mod RequestEvents
pub mod GraphMeans
