-- What the contracts of this crate cite.
pub mod Legal
pub mod Laws
