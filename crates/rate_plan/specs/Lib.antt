pub mod LargestAreas
pub mod Laws
pub mod LeastMenuPlan
pub mod Menus
pub use Rattle.slot_plan.specs.Layouts
pub use Rattle.slot_plan.specs.Lists
pub use Rattle.slot_plan.specs.Parts
pub use Rattle.slot_plan.specs.Plans
