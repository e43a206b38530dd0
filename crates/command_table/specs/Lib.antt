-- What the contracts of this crate cite.
pub mod Inputs
pub mod Choices
pub mod Chosen
pub mod Table
pub mod Laws
