pub mod Adding
pub mod LeafSites
pub mod Sound
pub mod ExprSites
pub mod StmtSites
pub mod ItemSites
