-- The lemmas of this crate.
pub mod WindowLemmas
pub mod FrameLemmas
