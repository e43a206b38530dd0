-- The lemmas of this crate.
pub mod RefusalLemmas
pub mod ProperLemmas
pub mod RangeFaultLemmas
pub mod FadeLemmas
pub mod FadeProperLemmas
