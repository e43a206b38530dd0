-- The lemmas of this crate.
pub mod ListLemmas
pub mod OrderLemmas
pub mod FollowLemmas
pub mod PlaceLemmas
pub mod ReadingLemmas
pub mod SoundLemmas
pub mod EmptyLemmas
