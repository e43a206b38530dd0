-- What the contracts of this crate cite.
pub mod StepText
pub mod RoomLaw
pub mod WrittenText
