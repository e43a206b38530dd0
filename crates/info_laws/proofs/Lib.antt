-- The lemmas of this crate.
pub mod StepLemmas
pub mod RoomLemmas
pub mod CountLemmas
pub mod PieceTextLemmas
