pub mod Building
pub mod Indexing
pub mod Parts
pub mod Sums
