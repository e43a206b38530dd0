-- What the contracts of this crate cite.
pub mod Channels
pub mod GainRange
pub mod UndoItem
pub mod Change
pub mod Gain
pub mod Undo
pub mod Movable
pub mod Changes
pub mod Fade
pub mod Steps
