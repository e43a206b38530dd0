-- The lemmas of this crate.
pub mod InputLemmas
pub mod GainLemmas
pub mod FadeLemmas
pub mod SampleLemmas
pub mod SplitLemmas
pub mod RemoveLemmas
pub mod PackLemmas
pub mod JoinLemmas
pub mod SalvageLemmas
pub mod LegalLemmas
pub mod UnfitLemmas
