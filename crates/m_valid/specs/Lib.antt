pub mod Nodes
pub mod Validity
pub mod Walk
pub mod Plain
pub mod Assembly
pub mod Alike
