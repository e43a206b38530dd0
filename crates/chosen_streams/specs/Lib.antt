-- What the contracts of this crate cite.
pub mod Exact
pub mod Laws
