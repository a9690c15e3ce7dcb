pub mod Bits
pub mod Literals
pub mod Known
pub mod AndRules
pub mod XorRules
pub mod DeepRight
pub mod Applied
