-- What the contracts of this crate cite.
pub mod UsableFrames
pub mod Walk
pub mod SoundFrames
pub mod DamagedFiles
pub mod JudgedFrames
pub mod Steps
pub mod RawHeader
pub mod Progress
pub mod Answers
pub mod Text
pub mod Stream
pub mod KeptFrames
pub mod EmptiedFrames
