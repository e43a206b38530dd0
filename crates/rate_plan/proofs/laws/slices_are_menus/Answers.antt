-- Slots next to each other.
use Rattle.rate_plan.proofs.MenuLemmas.{slices-menus}
use Rattle.rate_plan.proofs.laws.slices_are_menus.Goals as goal

pub returns : goal.returns
returns c = slices-menus
