-- The lemmas of this crate.
pub mod InputLemmas
pub mod PartLemmas
pub mod RestLemmas
pub mod SplicePlanLemmas
pub mod SourceLemmas
pub mod StepLemmas
pub mod BorrowLemmas
