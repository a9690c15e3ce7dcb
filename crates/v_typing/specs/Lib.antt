pub mod Meanings
pub mod Sound
pub mod Sited
