pub mod Judged
pub mod Placed
pub mod Reported
pub mod Simulated
pub mod Texts
pub mod Traced
pub mod Upgraded
