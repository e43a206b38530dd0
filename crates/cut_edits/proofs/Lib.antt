-- The lemmas of this crate.
pub mod LaidPassLemmas
pub mod ChosenLemmas
pub mod HeadLemmas
pub mod SpanLemmas
pub mod SealedLemmas
pub mod PieceLemmas
