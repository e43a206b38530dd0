-- What the contracts of this crate cite.
pub mod Drilled
pub mod Laws
pub mod Draws
pub mod Drill
pub mod Making
pub mod Summary
pub mod StreamLaws
