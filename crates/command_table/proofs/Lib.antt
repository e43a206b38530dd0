-- Lemmas of this crate.
pub mod NameLemmas
