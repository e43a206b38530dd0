-- The plan of one part whose frames and lead-in have slots of one menu.
use Rattle.std.specs.Prelude.{AllPairs, Bool, false, length, List, map, take, true, ℕ, [], ◌+◌, ◌<◌}
use Rattle.std.specs.Prelude.{◌↔◌, ◌∷◌, ◌≡◌, ◌≤◌}
use Rattle.frame_header.specs.{Fields.{ClassFields, HeaderFields, SlotFields}, Limits.most_frames}
use Rattle.frame_header.specs.Tables.{class_of}
use Rattle.rate_plan.specs.declared.fault.RateFault.{RateFault, TheVariants.{Memory, Unfit}}
use Rattle.slot_plan.specs.Lists.{CanBeLaid}
use Rattle.slot_plan.specs.Parts.{AreNeedsOfClass, lead_in_item, need_item, open_frame, PlanItem}
use Rattle.slot_plan.specs.{Parts.slot_areas, Plans.IsPlanFor, declared.needs.Need.Need}
use Rattle.slot_plan.specs.declared.needs.Placed.{Placed}

-- whatever its header, a frame may have any slot of the menu
abbrev pub menu_choices : List SlotFields → HeaderFields → List SlotFields
menu_choices menu header = menu

-- in this class the areas of the slots ascend, whether or not the frames have check words
abbrev pub HasAscendingAreas : ClassFields → List SlotFields → Type 0
HasAscendingAreas class menu =
    (protected : Bool) → AllPairs (λ m n. m < n) (slot_areas class protected menu)

-- a menu for frames of this class
pub record IsMenuOf (class : ClassFields) (menu : List SlotFields) : Type 0 where
  -- it has a slot
  pub slots : 1 ≤ length menu
  pub ascending : HasAscendingAreas class menu

-- frames of this class that can be planned together
pub record ArePlannableNeeds (class : ClassFields) (needs : List Need) : Type 0 where
  pub class_is : AreNeedsOfClass class needs
  -- there is a frame
  pub some : 1 ≤ length needs
  -- there are at most as many as a stream may have
  pub few : length needs ≤ most_frames

-- the areas of the menu ascend in the class of the first frame
abbrev pub IsMenu : List SlotFields → List Need → Type 0
IsMenu menu [] = Unit {0}
IsMenu menu (first ∷ needs) = HasAscendingAreas (class_of first.header) menu

-- the frames of a part, after a lead-in from the menu if there is one
unfoldable pub menu_items : Bool → List SlotFields → List Need → List PlanItem
menu_items false menu needs = map (need_item (menu_choices menu)) needs
menu_items true menu [] = []
menu_items true menu (first ∷ needs) =
    lead_in_item (class_of first.header) menu ∷ map (need_item (menu_choices menu)) (first ∷ needs)

-- some list of areas from the menu has a layout, after a lead-in or without one
abbrev pub CanBeLaidFromMenu : ℕ → Bool → List SlotFields → List Need → Type 0
CanBeLaidFromMenu window lead_in menu needs =
    CanBeLaid window (map open_frame (menu_items lead_in menu needs))

-- The plan: with a lead-in exactly if no list has a layout without one, the
-- lexicographically least list with or without it, with main data as early as they may be.
pub record IsMenuPlan (window : ℕ) (menu : List SlotFields) (needs : List Need)
    (placed : List Placed) : Type 0 where
  pub lead_in : Bool
  pub without : (lead_in ≡ false) ↔ CanBeLaidFromMenu window false menu needs
  pub whole : IsPlanFor window (menu_items lead_in menu needs) placed

-- No list has a layout, after a lead-in or without one, and
-- this is the first frame up to which none has, even after one.
pub record IsFirstUnfitFrame (window : ℕ) (menu : List SlotFields) (needs : List Need)
    (i : ℕ) : Type 0 where
  pub never : (lead_in : Bool) → CanBeLaidFromMenu window lead_in menu needs → ⊥
  pub within : i < length needs
  pub here : CanBeLaidFromMenu window true menu (take (i + 1) needs) → ⊥
  pub before : (k : ℕ) → k < i → CanBeLaidFromMenu window true menu (take (k + 1) needs)

-- what a refusal says
abbrev pub RefusesMenu : ℕ → List SlotFields → List Need → RateFault → Type 0
RefusesMenu window menu needs (Unfit i) = IsFirstUnfitFrame window menu needs i
RefusesMenu window menu needs Memory = Unit {0}
