pub mod Processes
pub mod Forms
pub mod Sited
