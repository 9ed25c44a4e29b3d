pub mod Contents
pub mod Works
pub mod Listing
