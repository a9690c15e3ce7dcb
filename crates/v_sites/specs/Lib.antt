pub mod Found
pub mod Adding
