-- If the largest slot is in the menu, whatever has a layout in its own slots fits.
use Rattle.std.proofs.Common.{All, arith, Bool, Contains, false, length, List, map, suc, true, ℕ}
use Rattle.std.proofs.Common.{[], ◌+◌, ◌∷◌, ◌≡◌, ◌≤◌}
use Rattle.frame_header.proofs.SlotLemmas.{area-largest, window-spanned}
use Rattle.frame_header.specs.Fields.{ClassFields, IsClass, IsSlot, SlotFields}
use Rattle.frame_header.specs.{Slots.largest_slot, Tables.{area_of, class_of, window_of}}
use Rattle.rate_plan.proofs.FitLemmas.{fit-laid, most_area, start_of, top_frame}
use Rattle.rate_plan.specs.Laws.{LargestSlotFits}
use Rattle.slot_plan.proofs.AreaLemmas.{Contains-area}
use Rattle.slot_plan.proofs.ReserveLemmas.{AllFit, fit-from, greatest_number-most}
use Rattle.slot_plan.specs.Parts.{AreNeedsOfClass, own_frame, own_slot_area, slot_areas}
use Rattle.slot_plan.specs.{Reserve.{free_bytes_behind, greatest_number}, declared.needs.Need.Need}

-- no area of the class is larger
most-is : (class : ClassFields) (menu : List SlotFields) (slot : SlotFields) (protected : Bool)
    → IsClass class → IsSlot slot → Contains menu largest_slot
    → area_of class slot protected ≤ greatest_number (slot_areas class protected menu)
most-is class menu slot protected sound is has =
    grind (
      arith,
      area-largest class slot protected sound is,
      greatest_number-most (slot_areas class
          protected menu) (Contains-area class protected menu has),
      Contains-area class protected menu has,
    )

own-most : {class : ClassFields} (menu : List SlotFields) (need : Need) → IsClass class
    → class_of need.header ≡ class → IsSlot need.header.slot → Contains menu largest_slot
    → own_slot_area need ≤ most_area menu need
own-most menu need sound same is has = grind (arith, most-is)

fit-own : (window free : ℕ) {more : ℕ} (class : ClassFields) (menu : List SlotFields)
    (needs : List Need) → free ≤ more → IsClass class → AreNeedsOfClass class needs
    → All (λ need. IsSlot need.header.slot) needs → Contains menu largest_slot
    → AllFit window free (map own_frame needs) → AllFit window more (map (top_frame menu) needs)
unfolding AllFit AreNeedsOfClass
fit-own window free class menu [] less sound same are has fit = tt
fit-own window free {more} class menu (need ∷ needs) less sound same are has fit =
    let most = own-most menu need sound same.0 (are 0 need (omega arith)) has in
    let room : need.bytes ≤ free + own_slot_area need = fit.0 in (
      omega (arith, most, room, less),
      fit-own window
          (free_bytes_behind window free need.bytes (own_slot_area need)) class menu needs
          (omega (arith, most, less)) sound same.1
          (λ k d lt. are (suc k) d (omega (arith, lt))) has fit.1,
    )

some-slot : (menu : List SlotFields) → Contains menu largest_slot → 1 ≤ length menu
some-slot menu has = omega (arith, has.1)

-- if the largest slot is in the menu, whatever has a layout in its own slots fits
pub largest-fits : LargestSlotFits
largest-fits = λ class menu needs i sound same are has feasible unfit.
    let window : ℕ = window_of class.version in
    let most = greatest_number-most (slot_areas class false menu)
    (Contains-area class false menu has) in
    let all : window ≤ start_of window class menu =
    omega (arith, most, window-spanned class sound) in
    let fit = fit-own window window class menu needs all sound same are
    has (fit-from window 0 (map own_frame needs) feasible) in
    unfit.never true
    (fit-laid window class menu needs same (omega (arith, unfit.within)) (some-slot menu has) fit)
