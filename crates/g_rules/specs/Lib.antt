pub mod Literals
pub mod Shapes
pub mod Keeps
pub mod PlainRules
pub mod DeepRules
pub mod Applying
