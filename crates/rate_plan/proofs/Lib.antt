pub mod FitLemmas
pub mod PlacingLemmas
pub mod LargestSlotLemmas
pub mod LeastMenuPlanLemmas
pub mod MenuLemmas
