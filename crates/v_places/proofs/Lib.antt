pub mod Spans
pub mod Exprs
pub mod Stmts
pub mod Modules
pub mod Thinning
pub mod Found
pub mod PlaceRows
