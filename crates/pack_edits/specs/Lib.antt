-- What the contracts of this crate cite.
pub mod Rates
pub mod Modes
pub mod Fewest
pub mod Laws
pub mod Answers
