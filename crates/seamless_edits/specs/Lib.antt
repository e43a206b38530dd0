-- What the contracts of this crate cite.
pub mod Seamless
pub mod Reading
pub mod Beginnings
pub mod Sounds
pub mod Deciding
pub mod Numbers
pub mod SpliceReady
pub mod SeamlessReady
pub mod Lines
pub mod LostFrames
