pub mod Ascending
pub mod Nexts
pub mod Outputs
