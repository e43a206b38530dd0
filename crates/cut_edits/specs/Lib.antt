-- What the contracts of this crate cite.
pub mod Chosen
pub mod Layable
pub mod Choices
pub mod Exact
pub mod Heads
