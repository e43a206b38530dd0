pub mod HeadTextLemmas
pub mod InfoLemmas
pub mod FrameLemmas
pub mod FileInfoLemmas
