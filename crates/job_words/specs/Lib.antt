-- What the contracts of this crate cite.
pub mod Request
pub mod Code
pub mod Flags
pub mod Forms
pub mod Kinds
pub mod Words
