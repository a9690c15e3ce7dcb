pub mod Settling
pub mod Reads
pub mod Stepping
pub mod Steady
pub mod Numbered
pub mod Apart
pub mod Counting
pub mod Firsts
