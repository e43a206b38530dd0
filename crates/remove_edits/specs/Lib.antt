-- What the contracts of this crate cite.
pub mod Removed
pub mod Ready
