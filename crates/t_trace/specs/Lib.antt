pub mod Widths
pub mod Texts
pub mod Lines
