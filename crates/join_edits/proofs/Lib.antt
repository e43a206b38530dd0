-- The lemmas of this crate.
pub mod BehindLemmas
pub mod JoinLemmas
pub mod PlanLemmas
