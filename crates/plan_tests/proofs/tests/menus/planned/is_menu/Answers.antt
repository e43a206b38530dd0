-- The class is the class of the first need.
use Rattle.std.proofs.Common.{AllPairs, arith, false, get_or, length, List, subst, true, [], ◌<◌}
use Rattle.std.proofs.Common.{◌∷◌, ◌≡◌}
use Rattle.frame_header.specs.{Fields.{ClassFields, SlotFields}, Tables.class_of}
use Rattle.rate_plan.specs.Menus.{HasAscendingAreas, IsMenu}
use Rattle.slot_plan.specs.{Parts.slot_areas, declared.needs.Need.Need}
use Rattle.plan_tests.proofs.tests.menus.planned.is_menu.Goals as goal

menu-is : (class : ClassFields) (menu : List SlotFields) (needs : List Need) (d : Need)
    → 0 < length needs → class ≡ class_of (get_or needs 0 d).header
    → AllPairs (λ m n. m < n) (slot_areas class false menu)
    → AllPairs (λ m n. m < n) (slot_areas class true menu) → IsMenu menu needs
menu-is class menu [] d some is plain marked = absurd (omega (arith, some))
menu-is class menu (first ∷ needs) d some is plain marked =
    subst (λ c. HasAscendingAreas c menu) is (λ protected. elim protected
    as (λ p. AllPairs (λ m n. m < n) (slot_areas class p menu)) [ true ↦ marked | false ↦ plain ])

pub returns-then-ascend : goal.returns-then-ascend
returns-then-ascend c = λ is.
    menu-is c.class-class.result c.args.menu.now c.args.needs.now c.index-needs-0.result c.requires
    c.class-class.ensures (c.ascend.ensures c.if-ascend.true) (c.ascend-then-ascend.ensures is)
