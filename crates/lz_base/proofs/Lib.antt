pub mod Contents
pub mod Listed
pub mod Lists
pub mod MetNames
pub mod Pieces
pub mod Powers
