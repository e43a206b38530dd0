pub mod Digits
pub mod Places
pub mod Lines
pub mod Entries
pub mod Cues
pub mod Limits
pub use Rattle.frame_header.specs.Fields
pub use Rattle.frame_header.specs.Tables
