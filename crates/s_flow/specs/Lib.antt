pub mod FirstBroken
pub mod SmallText
pub mod Made
pub mod Front
pub mod Running
pub mod Simulation
pub mod SideBySide
