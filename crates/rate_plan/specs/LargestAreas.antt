-- The largest areas of a menu, computed once for all frames.
use Rattle.std.specs.Prelude.{Bool, if◌then◌else◌, List, ℕ, ◌≡◌, ◌≤◌}
use Rattle.frame_header.specs.{Fields.{ClassFields, SlotFields}, Limits.most_frame_length}
use Rattle.rate_plan.specs.declared.largest.Largest.{Largest}
use Rattle.slot_plan.specs.{Parts.slot_areas, Reserve.greatest_number}

-- the largest area of a frame with or without a check word
abbrev pub menu_largest_area : Largest → Bool → ℕ
menu_largest_area largest protected = if protected then largest.protected else largest.unprotected

-- these are the largest areas of a menu, at most 1,441 bytes
pub record AreLargestAreas (class : ClassFields) (menu : List SlotFields)
    (largest : Largest) : Type 0 where
  pub are : (protected : Bool)
      → menu_largest_area largest protected ≡ greatest_number (slot_areas class protected menu)
  pub most : (protected : Bool) → menu_largest_area largest protected ≤ most_frame_length
