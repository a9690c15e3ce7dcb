pub mod Arenas
pub mod Fitting
pub mod Equal
pub mod Made
pub mod Folds
