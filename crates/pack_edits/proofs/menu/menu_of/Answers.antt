-- What is kept of slots in order is in order.
use Rattle.std.proofs.Common.{ap, filter, subst, sym, ◌∙◌}
use Rattle.pack_edits.{proofs.MenuLemmas.menu-areas, specs.Rates.allows}
use Rattle.rate_plan.specs.Menus.{HasAscendingAreas}
use Rattle.pack_edits.proofs.menu.menu_of.Goals as goal

pub returns-clause-ascending : goal.returns-clause-ascending
returns-clause-ascending c =
    let menu = c.allowed_of.ensures ∙ ap (filter (allows c.args.mode c.args.class))
    (c.as_slice.ensures.value ∙ c.slots-slots.ensures.slots) in
    subst (HasAscendingAreas c.args.class) (sym menu)
    (λ protected. menu-areas (allows c.args.mode c.args.class) c.args.class protected
    (c.slots-slots.ensures.ascending protected))
