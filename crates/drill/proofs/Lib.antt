-- The lemmas of this crate.
pub mod PackedLemmas
pub mod DrawsLemmas
pub mod DrawnSideLemmas
pub mod MakingLemmas
pub mod BareStreamLemmas
pub mod DrillLemmas
pub mod NoLeadInLemmas
