-- The lemmas of this crate.
pub mod LaidLemmas
pub mod FrameLemmas
pub mod WritingLemmas
pub mod BytesLemmas
