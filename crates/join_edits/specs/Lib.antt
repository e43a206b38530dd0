-- What the contracts of this crate cite.
pub mod Join
pub mod JoinReady
