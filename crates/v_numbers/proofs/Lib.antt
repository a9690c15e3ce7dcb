pub mod Wrapped
pub mod Digits
pub mod Counted
pub mod Padded
pub mod Apart
pub mod Fitting
pub mod Widths
