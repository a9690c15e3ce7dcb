pub mod Executed
pub mod Cases
pub mod Runnable
pub mod Machines
pub mod Firsts
pub mod Walked
