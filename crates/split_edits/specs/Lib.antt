-- What the contracts of this crate cite.
pub mod Cutting
pub mod Split
pub mod Steps
