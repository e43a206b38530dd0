-- What the contracts of this crate cite.
pub mod Salvaged
pub mod Ordered
pub mod Ready
