pub mod NoPartIsDead
