pub mod Words
pub mod Moves
pub mod Operators
pub mod Sums
pub mod Products
