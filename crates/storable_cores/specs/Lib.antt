pub mod Storable
pub mod StorableLaws
pub mod RealCores
