pub mod Ones
pub mod Fit
