pub mod Copies
pub mod formers
pub mod Lends
pub mod Taking
