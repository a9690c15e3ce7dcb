pub mod Numbers
pub mod Tokens
pub mod Small
pub mod Rule
pub mod Grammar
pub mod StmtGrammar
pub mod ModuleGrammar
pub mod Source
