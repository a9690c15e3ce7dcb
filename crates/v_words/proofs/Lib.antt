pub mod Powers
pub mod Parity
pub mod Signs
pub mod Splits
