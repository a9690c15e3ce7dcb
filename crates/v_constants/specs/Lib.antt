pub mod Classes
pub mod Bodies
pub mod Constants
pub mod Verdicts
