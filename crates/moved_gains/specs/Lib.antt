-- What the contracts of this crate cite.
pub mod Gains
pub mod GainExtremes
pub mod Course
pub mod Edited
pub mod Streams
pub mod Change
pub mod Moving
pub mod Buffers
pub mod Passing
pub mod TagExtent
pub mod TagReading
pub mod TagLaws
