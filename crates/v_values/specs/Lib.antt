pub mod Moments
pub mod Seen
pub mod Chains
pub mod Writes
pub mod Kept
pub mod Queues
