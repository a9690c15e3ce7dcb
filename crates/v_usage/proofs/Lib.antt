pub mod Counting
pub mod Variants
pub mod Arms
pub mod Least
