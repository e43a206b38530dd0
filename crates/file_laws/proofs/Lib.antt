-- The lemmas of this crate.
pub mod CutItemLemmas
pub mod CutStartLemmas
pub mod CutChainLemmas
pub mod CutFrameLemmas
pub mod CutStreamLemmas
pub mod CutLemmas
pub mod WrittenFrameLemmas
