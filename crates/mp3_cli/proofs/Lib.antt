-- The lemmas of this crate.
pub mod LegalLemmas
pub mod OtherFileLemmas
pub mod KeptRunLemmas
pub mod RunLemmas
pub mod WrittenLemmas
pub mod FewestLemmas
pub mod ProgramRunLemmas
