pub mod Again
pub mod MetNames
pub mod PortNames
