-- What the laws of this crate cite.
pub mod PlayedParts
pub mod LeadInLaws
pub mod SpliceLaws
pub mod SeamlessLaws
pub mod JoinLaws
