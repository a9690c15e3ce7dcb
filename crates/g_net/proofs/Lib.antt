pub mod Lines
pub mod Valuation
pub mod Machine
