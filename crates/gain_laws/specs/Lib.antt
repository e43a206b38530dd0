-- What the laws of this crate cite.
pub mod Kept
pub mod StepLaws
pub mod GivenBack
pub mod GainKept
pub mod TakenBack
pub mod FadeKept
pub mod ExactSteps
pub mod CurveLaws
pub mod NewTagLaws
