pub mod Bits
pub mod Ports
pub mod Reached
pub mod Words
