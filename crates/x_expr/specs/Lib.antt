pub mod Nodes
pub mod Values
pub mod Folding
pub mod Forms
