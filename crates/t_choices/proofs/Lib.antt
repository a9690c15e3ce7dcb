pub mod Repeated
pub mod ChoiceFields
pub mod KeyedLines
pub mod WholeChoices
pub mod EntryFields
pub mod EntryPlaces
pub mod WholeSchedules
