pub mod KnownLemmas
pub mod TouchedLemmas
