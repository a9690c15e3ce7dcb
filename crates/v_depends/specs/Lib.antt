pub mod Pairs
pub mod Graphs
pub mod Nodes
pub mod Turning
pub mod Orders
