pub mod Agreeing
pub mod Handling
pub mod Alike
pub mod Fitting
pub mod Methods
pub mod Requests
