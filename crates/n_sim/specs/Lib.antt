pub mod SimValue
pub mod Wires
pub mod Gates
pub mod Lanes
pub mod Steps
pub mod Views
