pub mod SplitLemmas
pub mod SpanLemmas
pub mod PlayedLemmas
pub mod HeardLemmas
pub mod ExtensionLemmas
pub mod SealLemmas
