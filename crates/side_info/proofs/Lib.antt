pub mod GranuleLemmas
pub mod SideLemmas
pub mod CheckWordLemmas
pub mod FrameLemmas
pub mod LastBytesLemmas
mod CrcLemmas
mod ReadLemmas
mod WriteLemmas
pub mod GainsLemmas
pub mod FrontLemmas
