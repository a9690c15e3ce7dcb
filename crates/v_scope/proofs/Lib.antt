pub mod Adding
pub mod ExprMarks
pub mod StmtMarks
pub mod ItemMarks
pub mod Judging
pub mod Faults
