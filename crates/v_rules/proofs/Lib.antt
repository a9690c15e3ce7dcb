pub mod Rounds
pub mod Gathered
pub mod Sets
pub mod Written
pub mod Shared
pub mod Nets
pub mod Clocked
pub mod Rules
