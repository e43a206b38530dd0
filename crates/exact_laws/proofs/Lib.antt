-- The lemmas of this crate.
pub mod PlayLemmas
pub mod RecordingLemmas
pub mod SpanSpliceLemmas
pub mod ExactFileLemmas
pub mod ExactSpanLemmas
pub mod ExactSpliceLemmas
pub mod ExactNumberLemmas
pub mod ExactReadLemmas
pub mod ExactCutLemmas
pub mod ExactJoinLemmas
pub mod InfoFieldLemmas
pub mod ExactStepLemmas
pub mod PieceReadLemmas
