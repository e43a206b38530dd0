-- What the contracts of this crate cite.
pub mod Row
pub mod Limits
pub mod Items
pub mod Chains
pub mod Looks
pub mod Start
pub mod Walk
pub mod MainData
pub mod Faults
pub mod HeadApart
pub mod SurveyFaultKinds
pub mod Survey
pub mod Answers
pub mod Laws
pub mod WalkBeginning
pub mod Merge
pub mod Order
