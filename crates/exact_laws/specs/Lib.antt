-- What the laws of this crate cite.
pub mod SampleLaws
pub mod Recording
pub mod SpanLaws
pub mod ExactSeamLaws
pub mod PieceLaws
