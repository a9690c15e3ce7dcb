pub mod TypedLaws
pub mod BodyLaws
pub mod FormLaws
pub mod OpenFormLaws
pub mod SitedLaws
