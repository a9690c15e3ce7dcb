pub mod Network
pub mod Walk
pub mod Run
pub mod AsMachine
pub mod Grown
pub mod Views
