pub mod Occurrences
pub mod Lists
pub mod Idents
pub mod Firsts
pub mod Scope
