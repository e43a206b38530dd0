-- The lemmas of this crate.
pub mod LowLemmas
pub mod SheetLemmas
pub mod CurveLemmas
pub mod StepsLemmas
