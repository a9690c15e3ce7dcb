pub mod Usage
pub mod Bits
pub mod Places
