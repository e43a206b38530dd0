-- The lemmas of this crate.
pub mod HandleLemmas
pub mod LooseLemmas
