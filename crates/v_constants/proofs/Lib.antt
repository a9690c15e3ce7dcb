pub mod Operands
pub mod OpenLaws
pub mod BodyLaws
pub mod Depths
pub mod Turns
pub mod SenseLaws
pub mod ProperLaws
pub mod Steps
