pub mod Reading
pub mod Exprs
pub mod Gives
pub mod Stmts
pub mod Modules
pub mod Refusal
