pub mod LengthLemmas
pub mod HeaderLemmas
pub mod ClassLemmas
pub mod SlotLemmas
pub mod BelowLemmas
mod ComparingLemmas
