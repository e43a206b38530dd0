-- The lemmas of this crate.
pub mod WhyLemmas
pub mod OutputLemmas
pub mod NamedLemmas
pub mod RefusingLemmas
pub mod InputLemmas
pub mod MakeLemmas
pub mod MadeLemmas
pub mod TellingLemmas
pub mod SurveyedLemmas
pub mod SheetLemmas
pub mod FoundSheetLemmas
pub mod TouchLemmas
pub mod LikeLemmas
pub mod KeptLemmas
