pub mod Quotients
pub mod Weights
pub mod Maps
pub mod Variants
pub mod FloorLaws
pub mod SameLaws
pub mod SpotLaws
