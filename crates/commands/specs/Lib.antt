-- What the contracts of this crate and of the commands cite.
pub mod FaultKinds
pub mod PassFaults
pub mod Refusing
pub mod Command
pub mod AfterCall
pub mod Inputs
pub mod SingleOutput
pub mod Runs
pub mod SentText
pub mod WithText
pub mod Sheet
pub mod Answers
pub mod Kept
