pub mod Walks
pub mod Shapes
pub mod Counts
pub mod Targets
pub mod Roles
pub mod Faults
pub mod Groups
