-- The lemmas of this crate.
pub mod OutputsLemmas
pub mod PiecesLemmas
pub mod CutLemmas
pub mod CommandLemmas
pub mod SheetLemmas
pub mod PartsLemmas
