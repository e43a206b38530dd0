-- What the contracts of this crate cite.
pub mod Frames
pub mod Joins
pub mod Seams
pub mod Decisions
pub mod Stretches
pub mod PartSplices
pub use Rattle.exact_span.specs.Overlaps
pub use Rattle.exact_span.specs.PlayedPositions
pub use Rattle.slot_plan.specs.FreeBytes
pub use Rattle.slot_plan.specs.Layouts
pub use Rattle.slot_plan.specs.Parts
