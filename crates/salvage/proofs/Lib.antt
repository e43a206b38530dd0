-- The lemmas of this crate.
pub mod UsableLemmas
pub mod ReadFaultLemmas
pub mod RawHeaderLemmas
pub mod SearchLemmas
pub mod WalkLemmas
pub mod SoundLemmas
pub mod ProgressLemmas
pub mod ResultLemmas
pub mod ReadingStepLemmas
pub mod KeptLemmas
pub mod LaidOutLemmas
pub mod StreamLemmas
pub mod MendedLemmas
