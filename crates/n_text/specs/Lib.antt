pub mod Raw
pub mod Lent
pub mod Keys
pub mod Grammar
pub mod Referred
pub mod Answers
