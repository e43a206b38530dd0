-- The last slot has the largest area.
use Rattle.std.proofs.Common.{◌∙◌}
use Rattle.slot_plan.proofs.AreaLemmas.{area-last}
use Rattle.slot_plan.proofs.ascending.largest_area_of.Goals as goal

pub returns-clause-largest : goal.returns-clause-largest
returns-clause-largest c = c.area_of.ensures.area ∙ area-last c.args.class c.args.protected
    c.args.slots.now c.index-slots-slots.result c.requires.rising.some
    c.requires.rising.ascending c.index-slots-slots.is
