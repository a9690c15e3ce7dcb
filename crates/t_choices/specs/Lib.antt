pub mod Repeated
pub mod Bits
pub mod ChoiceTexts
pub mod ScheduleTexts
pub mod Places
