-- The lemmas of this crate.
pub mod ItemLemmas
pub mod SpliceLemmas
pub mod MarkLemmas
pub mod PlanLemmas
pub mod RemovalLemmas
pub mod CommandLemmas
pub mod RangeLemmas
pub mod JoinLemmas
pub mod PlannedLemmas
pub mod PassLemmas
pub mod EditLemmas
