pub mod Saturated
pub mod Polynomials
pub mod Counts
pub mod Targets
pub mod Statements
