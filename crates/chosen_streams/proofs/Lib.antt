-- The lemmas of this crate.
pub mod ExactLemmas
pub mod CaseLemmas
pub mod MenuCaseLemmas
pub mod JoinCaseLemmas
pub mod SeamlessCaseLemmas
pub mod SalvageCaseLemmas
pub mod ChosenCaseLemmas
pub mod SpanCaseLemmas
pub mod SplitCaseLemmas
pub mod RemoveCaseLemmas
pub mod JobLemmas
pub mod NamedLemmas
