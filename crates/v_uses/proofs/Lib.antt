pub mod Adding
pub mod ExprReads
pub mod StmtAccesses
pub mod ItemUses
