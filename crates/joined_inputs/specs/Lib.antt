-- What the contracts of this crate cite.
pub mod Parts
pub mod Inputs
pub mod Ranges
pub mod Laying
pub mod Planned
