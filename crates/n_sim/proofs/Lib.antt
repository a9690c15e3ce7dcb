pub mod Words
pub mod Cells
pub mod Walks
pub mod Edges
pub mod Streams
pub mod Steps
pub mod Places
pub mod Cycles
