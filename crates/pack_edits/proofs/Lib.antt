-- The lemmas of this crate.
pub mod MenuLemmas
pub mod PlanLemmas
pub mod BestLemmas
pub mod LimitLemmas
pub mod PackingLemmas
pub mod ModeLemmas
pub mod FloorLemmas
pub mod FileLengthLemmas
pub mod PlanLengthLemmas
pub mod PackedLengthLemmas
