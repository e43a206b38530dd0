-- The lemmas of this crate.
pub mod OrderLemmas
pub mod HadLemmas
pub mod StreamLemmas
pub mod CommandLemmas
