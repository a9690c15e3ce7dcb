pub mod Sound
pub mod Made
pub mod Measured
pub mod Cases
pub mod Forms
pub mod Sited
