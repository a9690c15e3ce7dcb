pub mod Lists
pub mod Finishing
pub mod Layers
pub mod StmtLaws
pub mod Depths
pub mod Computing
pub mod Showing
pub mod Stepped
pub mod Beginning
pub mod Runs
pub mod Outcomes
pub mod FirstLaws
pub mod FirstWords
pub mod TargetCounts
pub mod NumberedWords
pub mod Accepted
pub mod TypedWords
mod Walking
